-- An act leaves of a message what it does not touch.
use Rattle.std.proofs.Common.{◌≡◌, ◌∙◌, ◌||◌, ◌&&◌, Bool, true, false, List, [], ◌∷◌, Option, map}
use Rattle.std.proofs.Common.{Some, nat_eq, not, refl}
use Rattle.std.specs.Prelude.{if◌then◌else◌}
use Rattle.std.proofs.lemmas.Simd.{map-map}
use Rattle.mail_base.specs.declared.flags.Flags.{Flags}
use Rattle.mail_base.specs.declared.kind.Id.{Id}
use Rattle.index_items.specs.Acts.{PlainAlteration, acted, acted_all, alteration, changed_by}
use Rattle.index_items.specs.Acts.{clearing, deletion, setting}
use Rattle.index_items.specs.Alteration.{alter_at, altered, altered_where}
use Rattle.index_items.specs.Items.{PlainItem, shown_flags}
use Rattle.index_items.specs.Pending.{joined, no_flags, shown, without}
use Rattle.index_items.specs.declared.act.Act.{Act}
use Rattle.index_items.specs.declared.act.Act.TheVariants.{Set, Clear, TurnFlagged, TurnNew}
use Rattle.index_items.specs.declared.act.Act.TheVariants.{Age, TurnTag}
use Rattle.index_items.specs.declared.act.Mark.{Mark}
use Rattle.index_items.specs.declared.act.Mark.TheVariants.{Deleted, New, Old, Replied, Tagged}
use Rattle.index_items.specs.declared.act.Mark.TheVariants.{Flagged}
use Rattle.index_view.specs.Acting.{Shown, item_shows, veiled_shown}
use Rattle.index_view.specs.Staying.{Touched, flags_alone, touched, touched_by}
use Rattle.index_view.proofs.StillLemmas.{each_same}

-- what is to be shown of a message without what is touched
abbrev pub item_but : Touched → PlainItem → Shown
item_but t i = veiled_shown t (item_shows i)

neutral : (b : Bool) → ((b && not false) || false) ≡ b
neutral true = refl
neutral false = refl

neutral_flags : (f : Flags) → joined (without f no_flags) no_flags ≡ f
neutral_flags f = λ k. record {
  seen = neutral f.seen k;
  aged = neutral f.aged k;
  replied = neutral f.replied k;
  flagged = neutral f.flagged k;
  passed = neutral f.passed k;
  draft = neutral f.draft k;
  trashed = neutral f.trashed k;
}

module _ (i : PlainItem) where
  abbrev Leaves : Touched → PlainAlteration → Type 0
  Leaves t a = item_but t (changed_by a i) ≡ item_but t i

  if_leaves : (t : Touched) (b : Bool) (one other : PlainAlteration) → Leaves t one
      → Leaves t other → Leaves t (if b then one else other)
  if_leaves t true one other first second = first
  if_leaves t false one other first second = second

  -- a mark of deletion is no flag
  same_flags : (deleted : Option Bool)
      → shown_flags (altered no_flags no_flags deleted i) ≡ shown_flags i
  same_flags deleted = λ k. shown i.flags (record i.pending {
    added = neutral_flags i.pending.added k;
    cleared = neutral_flags i.pending.cleared k;
  })

  deletion_leaves : (deleted : Bool) → Leaves (touched_by Deleted) (deletion deleted)
  deletion_leaves deleted =
      λ k. record (item_but (touched_by Deleted) i) { flags = same_flags (Some deleted) k }

  set_leaves : (m : Mark) → Leaves (touched_by m) (setting m)
  set_leaves Deleted = deletion_leaves true
  set_leaves New = refl
  set_leaves Old = refl
  set_leaves Replied = refl
  set_leaves Tagged = refl
  set_leaves Flagged = refl

  clear_leaves : (m : Mark) (f : Flags) → Leaves (touched_by m) (clearing m f)
  clear_leaves Deleted f = deletion_leaves false
  clear_leaves New f = refl
  clear_leaves Old f = if_leaves flags_alone f.seen _ _ refl refl
  clear_leaves Replied f = refl
  clear_leaves Tagged f = refl
  clear_leaves Flagged f = refl

  act_leaves : (act : Act) (f : Flags) (tag : Bool) → Leaves (touched act) (alteration act f tag)
  act_leaves (Set m) f tag = set_leaves m
  act_leaves (Clear m) f tag = clear_leaves m f
  act_leaves TurnFlagged f tag = if_leaves flags_alone f.flagged _ _ refl refl
  act_leaves TurnNew f tag = if_leaves flags_alone (f.seen || f.aged) _ _ refl refl
  act_leaves TurnTag f tag = refl
  act_leaves Age f tag = if_leaves flags_alone (f.seen || f.aged) _ _ refl refl

acted_leaves : (act : Act) (id : Id) (items : List PlainItem)
    → map (item_but (touched act)) (alter_at id (acted act) items)
    ≡ map (item_but (touched act)) items
acted_leaves act id items =
    map-map (item_but (touched act)) (altered_where id (acted act)) items
    ∙ each_same (λ i. item_but (touched act) (altered_where id (acted act) i))
    (item_but (touched act)) items
    (λ i. by_test i (nat_eq id.0 i.id.0) (act_leaves i act (shown_flags i) i.tagged))
  where
    by_test : (i : PlainItem) (b : Bool)
        → item_but (touched act) (acted act i) ≡ item_but (touched act) i
        → item_but (touched act) (if b then acted act i else i) ≡ item_but (touched act) i
    by_test i true leaves = leaves
    by_test i false leaves = refl

-- what is done to messages leaves of all of them what it does not touch
pub all_acted_leave : (act : Act) (ids : List Id) (items : List PlainItem)
    → map (item_but (touched act)) (acted_all act ids items)
    ≡ map (item_but (touched act)) items
all_acted_leave act [] items = refl
all_acted_leave act (id ∷ ids) items =
    all_acted_leave act ids (alter_at id (acted act) items) ∙ acted_leaves act id items
