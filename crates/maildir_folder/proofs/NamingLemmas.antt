-- Files that got their names in a sync.
use Rattle.std.proofs.Common.{◌≡◌, ◌∷◌, ◌∙◌, ℕ, List, [], Option, Some, None, ap, subst}
use Rattle.disk_model.specs.Journal.{Done, Entry, Own, Past, Rename}
use Rattle.disk_model.specs.Judge.{Grows, done_by}
use Rattle.mail_base.specs.declared.flags.Flags.{Flags}
use Rattle.index_items.specs.Changes.{Alters, Changed, Discards, PlainChange}
use Rattle.folder_letters.specs.Letters.{Mail}
use Rattle.folder_core.specs.Keeping.{mail_of}
use Rattle.folder_core.specs.Maildir.{MaildirFile, base_of, path_of}
use Rattle.folder_drivers.specs.MaildirSync.{AllNamed, WasNamed, WasRenamed, file_changed}
use Rattle.folder_stops.specs.Along.{Grown}
use Rattle.folder_stops.specs.Words.{Among}
use Rattle.folder_stops.proofs.Among.{among_behind, among_more, step_among}
use Rattle.maildir_folder.specs.Steps.{IsStep, IsStepOf, PlainStep, WasDone, call_by, call_of}

-- what comes before and behind does not count
renamed_longer : (path base : List ℕ) (added cleared : Flags) (a b c d : Option Past) → Grows a b
    → WasRenamed path base added cleared b c → Grows c d → WasRenamed path base added cleared a d
renamed_longer path base added cleared a b c d before named behind =
    let e : Entry = Own (Rename (path_of path named.file)
    (path_of path (file_changed added cleared named.file))) Done in
    record {
      file = named.file;
      shown = named.shown;
      named = named.named;
      made = among_behind e a b d before (among_more e b c d named.made behind);
    }

pub named_longer : (path key : List ℕ) (change : PlainChange) (a b c d : Option Past) → Grows a b
    → WasNamed path key change b c → Grows c d → WasNamed path key change a d
named_longer path key (Alters added cleared) a b c d before named behind =
    renamed_longer path key added cleared a b c d before named behind
named_longer path key Discards a b c d before named behind = tt

pub all_longer : (path : List ℕ) (mails : List Mail) (changes : List Changed)
    (a b c d : Option Past) → Grows a b → AllNamed path mails changes b c → Grows c d
    → AllNamed path mails changes a d
all_longer path mails [] a b c d before named behind = tt
all_longer path mails (changed ∷ changes) a b c d before named behind = (
  named_longer path (mail_of mails changed.id.0).key changed.change a b c d before named.0 behind,
  all_longer path mails changes a b c d before named.1 behind,
)

step_by : (path : List ℕ) (file : MaildirFile) (change : PlainChange) (from : List ℕ)
    (to : Option (List ℕ)) (old new : Option Past)
    → IsStep path file change (record { from = from; to = to })
    → WasDone (call_by from to) old new → (base : List ℕ) → base_of file ≡ base
    → WasNamed path base change old new
step_by path file (Alters added cleared) from None old new is done base named = absurd is.to
step_by path file (Alters added cleared) from (Some to) old new is done base named = record {
  file = file;
  shown = is.shown;
  named = named;
  made = subst (λ (p : List ℕ).
      Grown old new (λ s es. Among (Own (Rename p (path_of path (file_changed added cleared file)))
      Done) es)) is.from
      (subst (λ (p : List ℕ). Grown old new (λ s es. Among (Own (Rename from p) Done) es))
      (is.to.goes ∙ ap (path_of path) is.to.named)
      (step_among tt (Rename from to) (done_by (Rename from to)) old new done));
}
step_by path file Discards from to old new is done base named = tt

-- the file of a step got its name
pub step_named : (path base : List ℕ) (change : PlainChange) (step : PlainStep)
    (old new : Option Past) → IsStepOf path base change step → WasDone (call_of step) old new
    → WasNamed path base change old new
step_named path base change step old new is done =
    step_by path is.file change step.from step.to old new is.does done base is.named
