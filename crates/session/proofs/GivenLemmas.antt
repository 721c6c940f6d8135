-- What was given stays given while verdicts are kept.
use Rattle.std.proofs.Common.{◌≡◌, ◌++◌, List, refl, ◌∙◌, ap, arith, length, length-append}
use Rattle.std.proofs.Common.{[], append_assoc, map, subst, sym, take}
use Rattle.std.proofs.Math.Seq.{take-append_seam, take-length}
use Rattle.std.proofs.lemmas.List.{append-nil, take-take}
use Rattle.mail_base.specs.Series.{Held}
use Rattle.folder_letters.specs.Letters.{Mail, plain_letter}
use Rattle.folder_letters.specs.declared.letter.Letter.{Letter}
use Rattle.people.specs.Judged.{PlainJudged}
use Rattle.patterns.specs.Causes.{Keeps}
use Rattle.session_state.specs.declared.stage.Stage.{Stage}
use Rattle.session_state.specs.declared.stage.Stage.TheVariants.{Unopened}
use Rattle.session_events.specs.declared.event.Trace.{Trace}
use Rattle.session.specs.Calls.{IsGivenIn, KeepsGiven, letters_in}
use Rattle.session.specs.Given.{Given, IsGiven, IsGivenOn, given_of, met_of}
use Rattle.session.specs.Steps.{IsLent}

pub keeps_same : (verdicts : List PlainJudged) → Keeps verdicts verdicts
keeps_same verdicts = record { stays = λ text v h. h }

pub keeps_then : {old mid new : List PlainJudged} → Keeps old mid → Keeps mid new → Keeps old new
keeps_then first next = record { stays = λ text v h. next.stays text v (first.stays text v h) }

-- letters and verdicts are given by themselves
pub given_here : (mails : List Mail) (verdicts : List PlainJudged)
    → IsGivenOn mails verdicts (given_of mails verdicts)
given_here mails verdicts = record { first = take-length mails; keeps = keeps_same verdicts }

-- what is given behind a call was given before it
pub keeps_more : {mails mails' : List Mail} {old new : List PlainJudged} {given : Given}
    → mails' ≡ mails → Keeps old new → IsGivenOn mails' new given → IsGivenOn mails old given
keeps_more {mails} {mails'} {old} {new} {given} same keeps is = record {
  first = subst (λ (l : List Mail). take (length l) given.mails ≡ l) same is.first;
  keeps = keeps_then keeps is.keeps;
}

-- the same where letters came
pub given_before : {mails mails' : List Mail} {old new : List PlainJudged} {given : Given}
    (more : List Mail) → mails' ≡ mails ++ more → Keeps old new → IsGivenOn mails' new given
    → IsGivenOn mails old given
given_before {mails} {mails'} {old} {new} {given} more grown keeps is = record {
  first = sym (take-take (length mails) (length mails') given.mails
      (omega (arith, ap length grown, length-append mails more)))
      ∙ ap (take (length mails)) (is.first ∙ grown) ∙ take-append_seam mails more;
  keeps = keeps_then keeps is.keeps;
}

-- the first of what is given are the letters
pub given_met : {mails : List Mail} {kept : List PlainJudged} {given : Given}
    → IsGivenOn mails kept given → IsGiven mails kept (met_of (length mails) given)
given_met is = record { mails_are = is.first; keeps = is.keeps }

-- letters are given with verdicts of more
pub given_so : {kept : List PlainJudged} (mails : List Mail) (given : Given)
    → Keeps kept given.verdicts → IsGiven mails kept (given_of mails given.verdicts)
given_so mails given keeps = record { mails_are = refl; keeps = keeps }

pub given_on : {kept : List PlainJudged} (mails : List Mail) (given : Given)
    → Keeps kept given.verdicts → IsGivenOn mails kept (given_of mails given.verdicts)
given_on mails given keeps = record { first = take-length mails; keeps = keeps }

-- What is given is lent at each stage.

pub lent_given : {mails : List Mail} {kept : List PlainJudged} {given : Given} (stage : Stage)
    → IsGivenOn mails kept given → IsLent stage mails kept given
lent_given Unopened is = is.keeps
lent_given _ is = is

-- and it is at a later stage
pub lent_on : (mails : List Mail) (kept : List PlainJudged) (given : Given) (old new : Stage)
    → (old ≡ Unopened → new ≡ Unopened) → IsLent old mails kept given → IsLent new mails kept given
lent_on mails kept given Unopened new stays is =
    subst (λ (stage : Stage). IsLent stage mails kept given) (sym (stays refl)) is
lent_on mails kept given _ new stays is = lent_given new is

-- what is lent behind a call was lent before it
pub lent_more : {mails mails' : List Mail} {old new : List PlainJudged} (given : Given)
    (stage : Stage) → mails' ≡ mails → Keeps old new → IsLent stage mails' new given
    → IsLent stage mails old given
lent_more given Unopened same keeps is = keeps_then keeps is
lent_more given _ same keeps is = keeps_more same keeps is

-- Traces that grow.

pub keeps_still : {X : Type 0} {Is : X → Type 0} (was now : Trace X Is)
    → now.archive ≡ was.archive → Keeps was.verdicts.kept now.verdicts.kept → KeepsGiven was now
keeps_still {X} {Is} was now same kept = record {
  added = [];
  letters = ap (λ (a : Held Letter). map plain_letter a.items) same
      ∙ sym (append-nil (letters_in was));
  kept = kept;
}

pub keeps_on : {X : Type 0} {Is : X → Type 0} {was then now : Trace X Is} → KeepsGiven was then
    → KeepsGiven then now → KeepsGiven was now
keeps_on {X} {Is} {was} {then} {now} first next = record {
  added = first.added ++ next.added;
  letters = next.letters ∙ ap (λ (l : List Mail). l ++ next.added) first.letters
      ∙ append_assoc (letters_in was) first.added next.added;
  kept = keeps_then first.kept next.kept;
}

pub given_then : {X : Type 0} {Is : X → Type 0} {was now : Trace X Is} {given : Given}
    → KeepsGiven was now → IsGivenIn now given → IsGivenIn was given
given_then keeps is = given_before keeps.added keeps.letters keeps.kept is
