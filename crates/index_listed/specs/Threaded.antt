-- The listed messages in threads, where they stand, and what each follows.
use Rattle.std.specs.Prelude.{◌≡◌, List, Option, length, map}
use Rattle.threads.specs.Forest.{IsForest}
use Rattle.threads.specs.Subjects.{parents}
use Rattle.threads.specs.Threads.{PlainThreads, parent}
use Rattle.threads.specs.declared.options.Parent.{Parent}
use Rattle.threads.specs.declared.options.ThreadOptions.{ThreadOptions}
use Rattle.index_listed.specs.Listed.{PlainListed, ids}
use Rattle.index_listed.specs.Threading.{AllWithin, all_links, threads}
use Rattle.index_listed.specs.declared.threaded.Threaded.{Threaded}

-- whom each message follows, and by what
abbrev pub parents_of : PlainThreads → List PlainListed → List (Option Parent)
parents_of ts ls = map (λ l. parent ts l.id) ls

-- For the code alone.

-- messages in threads, where each stands, and what it follows
pub record AreThreaded (options : ThreadOptions) (ls : List PlainListed) (t : Threaded)
    : Type 0 where
  pub threads_are : t.threads ≡ threads options ls
  pub places_are : t.places ≡ ids ls
  pub links_are : t.links.items ≡ all_links (threads options ls) ls
  pub parents_are : t.parents.items ≡ parents_of (threads options ls) ls
  pub within : AllWithin (length ls) t.links.items
  pub forest : IsForest (parents options (threads options ls).messages)
