-- The steps of a sync, found change by change.
use Rattle.std.proofs.Common.{◌≡◌, ◌⊎◌, inl, inr, ◌++◌, ◌<◌, ℕ, zero, suc, Bool, true, false, List}
use Rattle.std.proofs.Common.{[], ◌∷◌}
use Rattle.std.proofs.Common.{Some, map, refl, sym, ◌∙◌, ap, subst, append_assoc, append-nil}
use Rattle.std.proofs.Common.{if◌then◌else◌, arith, length}
use Rattle.std.specs.Prelude.{slice_index_or}
use Rattle.std.specs.Str.{bytes_eq}
use Rattle.disk_model.proofs.Trees.{bytes_same}
use Rattle.mail_base.specs.Flags.{applied, stored}
use Rattle.mail_base.specs.Ordered.{IsIn}
use Rattle.mail_base.specs.declared.flags.Delta.{Delta}
use Rattle.mail_base.specs.declared.kind.Id.{Id}
use Rattle.mail_base.specs.declared.kind.Kind.TheVariants.{Maildir}
use Rattle.folder_letters.specs.Letters.{Mail, plain_letter}
use Rattle.folder_letters.specs.declared.letter.Letter.{Letter}
use Rattle.folder_letters.specs.declared.change.Change.{Change}
use Rattle.folder_letters.specs.declared.change.Change.TheVariants.{Alter}
use Rattle.folder_letters.specs.declared.change.Changed1.{Changed1}
use Rattle.folder_core.specs.Keeping.{mail_of}
use Rattle.folder_core.specs.Maildir.{MaildirFile, base_of, path_of}
use Rattle.folder_changes.specs.Maildir.{flags_named}
use Rattle.index_items.specs.Changes.{plain_change, plain_changes}
use Rattle.maildir_folder.specs.Candidates.{IsCandidate, plain_file}
use Rattle.maildir_folder.specs.NamedFile.{file_named}
use Rattle.maildir_folder.specs.Plan.{AddsStep, IsPlanRefusal}
use Rattle.folder_changes.specs.Asked.{ids_changed}
use Rattle.folder_drivers.specs.MaildirSync.{file_with}
use Rattle.maildir_folder.specs.Steps.{AreSteps, GoesTo, IsStep, IsStepOf, PlainStep}
use Rattle.maildir_folder.specs.declared.candidates.Candidate.{Candidate}
use Rattle.maildir_folder.specs.declared.plan.PlanError.{PlanError}
use Rattle.maildir_folder.specs.declared.plan.PlanError.TheVariants.{Gone, NoMemory}

-- the key of a letter
pub letter_key : (archive : List Letter) (i : ℕ) (d : Letter) → i < length archive
    → (slice_index_or archive i d).key.items ≡ (mail_of (map plain_letter archive) i).key
letter_key [] i d within = absurd (omega (arith, within))
letter_key (letter ∷ archive) zero d within = refl
letter_key (letter ∷ archive) (suc i) d within = letter_key archive i d (omega (arith, within))

-- a file goes to the path of the one under its new name
pub goes_renamed : (path : List ℕ) (file target : Candidate) (change : Change) (delta : Delta)
    (to : List ℕ) → change ≡ Alter delta → IsCandidate target
    → plain_file target ≡ file_with (stored Maildir
    (applied (flags_named (plain_file file)) delta.added delta.cleared)) (plain_file file)
    → base_of (plain_file target) ≡ base_of (plain_file file)
    → flags_named (plain_file target)
    ≡ stored Maildir (applied (flags_named (plain_file file)) delta.added delta.cleared)
    → to ≡ path_of path (plain_file target)
    → GoesTo path (plain_file file) (plain_change change) (Some to)
goes_renamed path file target change delta to is each named same tells goes =
    subst (λ (c : Change). GoesTo path (plain_file file) (plain_change c) (Some to)) (sym is)
    (record {
      target = plain_file target;
      shown = each.shown;
      base = same;
      tells = tells;
      named = named;
      goes = goes;
    })

-- the file of a base has it
named_base : (files : List MaildirFile) (base : List ℕ) (file : MaildirFile)
    → file_named files base ≡ Some file → base_of file ≡ base
named_base [] base file is = absurd (cc)
named_base (first ∷ files) base file is =
    by (bytes_eq (base_of first) base) refl is (λ rest. named_base files base file rest)
  where
    by : (t : Bool) → bytes_eq (base_of first) base ≡ t
        → (if t then Some first else file_named files base) ≡ Some file
        → (file_named files base ≡ Some file → base_of file ≡ base) → base_of file ≡ base
    by false other is again = again is
    by true same is again =
        let whole : first ≡ file = cc in
        sym (ap base_of whole) ∙ bytes_same (base_of first) base same

-- a step of the file that was found is one of its base
pub found_step : (path base : List ℕ) (change : Change) (files : List MaildirFile)
    (file : MaildirFile) (step : PlainStep) → Some file ≡ file_named files base
    → IsStep path file (plain_change change) step → IsStepOf path base (plain_change change) step
found_step path base change files file step found does = record {
  file = file;
  named = named_base files base file (sym found);
  does = does;
}

-- one step more
pub finish_more : (path : List ℕ) (mails : List Mail) (changed : Changed1)
    (changes whole left : List Changed1) (steps new : List PlainStep) → whole ≡ changed ∷ left
    → AddsStep path (mail_of mails changed.id.0).key (plain_change changed.change) steps new
    → ((rest : List PlainStep) → AreSteps path mails (plain_changes whole) rest
    → AreSteps path mails (plain_changes changes) (steps ++ rest))
    → (rest : List PlainStep) → AreSteps path mails (plain_changes left) rest
    → AreSteps path mails (plain_changes changes) (new ++ rest)
finish_more path mails changed changes whole left steps new is adds finishes rest are =
    subst (AreSteps path mails (plain_changes changes))
    (sym (ap (λ (l : List PlainStep). l ++ rest) adds.more
    ∙ append_assoc steps (adds.step ∷ []) rest))
    (finishes (adds.step ∷ rest)
    (subst (λ (l : List Changed1). AreSteps path mails (plain_changes l) (adds.step ∷ rest))
    (sym is) (adds.is, are)))

-- all steps
pub finish_end : (path : List ℕ) (mails : List Mail) (changes left : List Changed1)
    (steps : List PlainStep) → left ≡ []
    → ((rest : List PlainStep) → AreSteps path mails (plain_changes left) rest
    → AreSteps path mails (plain_changes changes) (steps ++ rest))
    → AreSteps path mails (plain_changes changes) steps
finish_end path mails changes left steps none finishes =
    subst (AreSteps path mails (plain_changes changes)) (append-nil steps)
    (finishes [] (subst (λ (l : List Changed1). AreSteps path mails (plain_changes l) []) (sym none)
    tt))

-- a change that is left is one of all
pub among_more : (id : Id) (changed : Changed1) (whole left : List Changed1)
    → whole ≡ changed ∷ left → IsIn id (ids_changed left) → IsIn id (ids_changed whole)
among_more id changed whole left is held =
    subst (λ (l : List Changed1). IsIn id (ids_changed l)) (sym is) (inr held)

-- so is the first of those that are left
pub among_first : (changed : Changed1) (whole left : List Changed1) → whole ≡ changed ∷ left
    → IsIn changed.id (ids_changed whole)
among_first changed whole left is =
    subst (λ (l : List Changed1). IsIn changed.id (ids_changed l)) (sym is) (inl refl)

-- a refusal of one of the changes
pub refused_among : (files : List MaildirFile) (mails : List Mail) (one : Id) (ids : List Id)
    (why : PlanError) → IsIn one ids → IsPlanRefusal files mails (one ∷ []) why
    → IsPlanRefusal files mails ids why
refused_among files mails one ids (Gone id) among refusal = (by refusal.0, refusal.1)
  where
    by : (one ≡ id) ⊎ ⊥ → IsIn id ids
    by (inl same) = subst (λ (i : Id). IsIn i ids) same among
    by (inr none) = absurd none
refused_among files mails one ids NoMemory among refusal = tt
