use Rattle.std.proofs.Common.{◌≡◌, Ok, List, [], rules, ap, map, refl, subst, sym, ◌∙◌}
use Rattle.mail_base.specs.declared.kind.Kind.{Kind}
use Rattle.folder_core.specs.Keeping.{IsDifference}
use Rattle.folder_core.specs.Known.{KnownFolder}
use Rattle.folder_letters.specs.declared.listing.Listed.{Listed}
use Rattle.folder_letters.specs.Letters.{plain_letter}
use Rattle.folder_core.proofs.RightLemmas.{first_came}
use Rattle.std.proofs.lemmas.List.{length-map}
use Rattle.session_events.proofs.Looked.{found_told, no_kind_told, refused_told, right_kind}
use Rattle.session_events.proofs.Looked.{starved_told, touches_read, unread_told}
use Rattle.session_events.proofs.TouchLemmas.{looks_may}
use Rattle.session_events.proofs.opening.read_folder.Goals as goal

pub returns-in-Err : goal.returns-in-Err
returns-in-Err g c = record {
  looked = no_kind_told _ c.args.empty c.args.owner.now _ c.in-Err.why _ _ c.in-Err.ensures.kind;
  here = looks_may _ _ _ c.in-Err.ensures.only.looks;
  cause = search rules;
  driver = search rules;
  folder = search rules;
  fresh = search rules;
  none = search rules;
  marks = search rules;
  faults = search rules;
}

pub returns-then-not-has : goal.returns-then-not-has
returns-then-not-has g c = record {
  looked = c.in-Ok.ensures.kind;
  here = looks_may _ _ _ c.in-Ok.ensures.only.looks;
  cause = search rules;
  driver = search rules;
  folder = search rules;
  fresh = search rules;
  none = search rules;
  marks = search rules;
  faults = search rules;
}

pub returns-in_default : goal.returns-in_default
returns-in_default g c = record {
  looked = starved_told c.args.empty c.args.path.now c.in-Ok.kind _ _ c.in-Ok.ensures.kind;
  here = looks_may _ _ _ c.in-Ok.ensures.only.looks;
  cause = search rules;
  driver = search rules;
  folder = search rules;
  fresh = search rules;
  none = search rules;
  marks = search rules;
  faults = search rules;
}

pub visit-requires-clause-has : goal.visit-requires-clause-has
visit-requires-clause-has g c =
    let same : c.in-Ok-new.known.kind ≡ c.in-Ok.kind =
    ap (λ (k : KnownFolder). k.kind) c.in-Ok-new.ensures.known in
    rw same (search rules)

pub visit-requires-clause-right : goal.visit-requires-clause-right
visit-requires-clause-right g c =
    right_kind (ap (λ (k : KnownFolder). k.kind) c.in-Ok-new.ensures.known)
    (c.in-Ok-new.ensures.right _ _)

pub returns-in-Ok-to_vec : goal.returns-in-Ok-to_vec
returns-in-Ok-to_vec g c =
    let lists = c.in-Ok-visit.ensures.lists in
    let known : KnownFolder = c.in-Ok-new.known in
    let none : known.listing ≡ [] = ap (λ (k : KnownFolder). k.listing) c.in-Ok-new.ensures.known in
    let came = (first_came c.visit.new.known.listing c.in-Ok-visit.found
    (subst (λ (l : List Listed). IsDifference l c.visit.new.known.listing c.in-Ok-visit.found) none
    lists.difference)).0 in
    let path = ap (λ (k : KnownFolder). k.path) lists.kept
    ∙ ap (λ (k : KnownFolder). k.path) c.in-Ok-new.ensures.known in
    let same : known.kind ≡ c.in-Ok.kind =
    ap (λ (k : KnownFolder). k.kind) c.in-Ok-new.ensures.known in
    let kind : c.visit.new.known.kind ≡ c.in-Ok.kind =
    ap (λ (k : KnownFolder). k.kind) lists.kept ∙ same in
    record {
      looked = found_told c.args.empty c.args.owner.now c.args.path.now c.in-Ok.kind
          (map plain_letter c.args.archive.now.items) (map plain_letter c.visit.new.archive.items)
          known c.visit.new.known _ _ _ (ap (map plain_letter) c.requires) c.in-Ok-new.ensures.known
          c.in-Ok.ensures.kind c.in-Ok.ensures.only.looks c.in-Ok-visit.found _ path (sym came)
          c.in-Ok-visit.ensures.saw;
      here = touches_read c.args.path.now c.in-Ok.kind known c.in-Ok-new.ensures.known
          c.in-Ok.ensures.only.looks c.in-Ok-visit.ensures.here;
      cause = search rules;
      driver = search rules;
      folder = record {
        path_is = path;
        kind_is = kind;
        listed = sym came;
        right = rw (sym same) c.in-Ok-visit.ensures.right;
        listing = search rules;
        met = c.len.ensures ∙ sym (length-map c.visit.new.archive.items plain_letter);
        forgot = refl;
        refused = refl;
        checked = search rules;
      };
      fresh = search rules;
      none = search rules;
      marks = search rules;
      faults = search rules;
    }

-- memory ran out behind the visit
pub returns-in_default-to_vec : goal.returns-in_default-to_vec
returns-in_default-to_vec g c =
    let known : KnownFolder = c.in-Ok-new.known in record {
      looked = unread_told c.args.empty c.args.owner.now c.args.path.now c.in-Ok.kind
          (map plain_letter c.args.archive.now.items) (map plain_letter c.visit.new.archive.items)
          known c.visit.new.known _ _ _ (ap (map plain_letter) c.requires) c.in-Ok-new.ensures.known
          c.in-Ok.ensures.kind c.in-Ok.ensures.only.looks (Ok c.in-Ok-visit.found)
          c.in-Ok-visit.ensures.saw;
      here = (
        c.in-Ok.kind,
        touches_read c.args.path.now c.in-Ok.kind known
            c.in-Ok-new.ensures.known c.in-Ok.ensures.only.looks c.in-Ok-visit.ensures.here,
      );
      cause = search rules;
      driver = search rules;
      folder = search rules;
      fresh = search rules;
      none = search rules;
      marks = search rules;
      faults = search rules;
    }

pub returns-in-Err-visit : goal.returns-in-Err-visit
returns-in-Err-visit g c =
    let known : KnownFolder = c.in-Ok-new.known in record {
      looked = refused_told c.args.empty c.args.owner.now c.args.path.now c.in-Ok.kind
          (map plain_letter c.args.archive.now.items) (map plain_letter c.visit.new.archive.items)
          known c.visit.new.known _ _ _ (ap (map plain_letter) c.requires) c.in-Ok-new.ensures.known
          c.in-Ok.ensures.kind c.in-Ok.ensures.only.looks _ c.in-Err-visit.why (search rules)
          c.in-Err-visit.ensures.saw;
      here = (
        c.in-Ok.kind,
        touches_read c.args.path.now c.in-Ok.kind known
            c.in-Ok-new.ensures.known c.in-Ok.ensures.only.looks c.in-Err-visit.ensures.here,
      );
      cause = search rules;
      driver = search rules;
      folder = search rules;
      fresh = search rules;
      none = search rules;
      marks = search rules;
      faults = search rules;
    }
