use Rattle.std.proofs.Common.{◌∙◌, ap, map, subst, sym}
use Rattle.std.proofs.lemmas.List.{length-map}
use Rattle.threads.specs.Forest.{IsForest}
use Rattle.threads.specs.Subjects.{parents}
use Rattle.threads.specs.Threads.{PlainThreads}
use Rattle.index_listed.specs.Listed.{plain_listed}
use Rattle.index_listed.specs.Places.{numbers}
use Rattle.index_listed.specs.Threaded.{parents_of}
use Rattle.index_listed.specs.Threading.{AllWithin, all_links}
use Rattle.index_listed.proofs.threaded.in_threads.Goals as goal

pub returns : goal.returns
returns c =
    let listed = c.args.listed.now in
    let ls = map plain_listed listed in
    let links = c.in_ok-links.links.items in
    let threads = c.in_ok-threads.ensures.threads in record {
      threads_are = threads;
      places_are = c.in_ok-places.ensures ∙ ap numbers c.deref.ensures.value
          ∙ c.in_ok-ids_of.ensures;
      links_are = c.in_ok-links.ensures.links ∙ ap (λ (t : PlainThreads). all_links t ls) threads;
      parents_are = c.in_ok-parents.ensures ∙ ap (λ (t : PlainThreads). parents_of t ls) threads;
      within = subst (λ n. AllWithin n links) (sym (length-map listed plain_listed))
          c.in_ok-links.ensures.within;
      forest = subst (λ (t : PlainThreads). IsForest (parents t.options t.messages)) threads
          c.in_ok-threads.ensures.forest;
    }
