-- No flag is both added and cleared.
use Rattle.std.proofs.Common.{◌≡◌, Bool, true, false, ◌&&◌, ◌||◌, not, refl}
use Rattle.std.proofs.lemmas.Bool.{or_from, or_parts}
use Rattle.mail_base.specs.Flags.{overlap}
use Rattle.mail_base.specs.declared.flags.Flags.{Flags}
use Rattle.index_items.specs.Pending.{joined, shared, without}

-- flags that overlap nowhere, flag by flag
record Apart (f g : Flags) : Type 0 where
  pub seen : (f.seen && g.seen) ≡ false
  pub aged : (f.aged && g.aged) ≡ false
  pub replied : (f.replied && g.replied) ≡ false
  pub flagged : (f.flagged && g.flagged) ≡ false
  pub passed : (f.passed && g.passed) ≡ false
  pub draft : (f.draft && g.draft) ≡ false
  pub trashed : (f.trashed && g.trashed) ≡ false

apart : (f g : Flags) → overlap f g ≡ false → Apart f g
apart f g is =
    let by_trashed = or_parts _ (f.trashed && g.trashed) is in
    let by_draft = or_parts _ (f.draft && g.draft) by_trashed.0 in
    let by_passed = or_parts _ (f.passed && g.passed) by_draft.0 in
    let by_flagged = or_parts _ (f.flagged && g.flagged) by_passed.0 in
    let by_replied = or_parts _ (f.replied && g.replied) by_flagged.0 in
    let by_aged = or_parts (f.seen && g.seen) (f.aged && g.aged) by_replied.0 in
    record {
      seen = by_aged.0;
      aged = by_aged.1;
      replied = by_replied.1;
      flagged = by_flagged.1;
      passed = by_passed.1;
      draft = by_draft.1;
      trashed = by_trashed.1;
    }

overlap_none : (f g : Flags) → Apart f g → overlap f g ≡ false
overlap_none f g is =
    or_from _ _ (or_from _ _ (or_from _ _ (or_from _ _ (or_from _ _ (or_from _ _
    is.seen is.aged) is.replied) is.flagged) is.passed) is.draft) is.trashed

changed_flag : (a c x y : Bool) → (a && c) ≡ false → (x && y) ≡ false
    → (((a && not y) || x) && ((c && not x) || y)) ≡ false
changed_flag true true x y is is' = absurd (cc)
changed_flag a c true true is is' = absurd (cc)
changed_flag true false true false is is' = refl
changed_flag true false false true is is' = refl
changed_flag true false false false is is' = refl
changed_flag false true true false is is' = refl
changed_flag false true false true is is' = refl
changed_flag false true false false is is' = refl
changed_flag false false true false is is' = refl
changed_flag false false false true is is' = refl
changed_flag false false false false is is' = refl

left_flag : (a c h : Bool) → ((a && not h) && (c && h)) ≡ false
left_flag true true true = refl
left_flag true true false = refl
left_flag true false true = refl
left_flag true false false = refl
left_flag false c h = refl

pub changed_apart : (a c x y : Flags) → overlap a c ≡ false → overlap x y ≡ false
    → overlap (joined (without a y) x) (joined (without c x) y) ≡ false
changed_apart a c x y old more =
    let p = apart a c old in
    let q = apart x y more in
    overlap_none (joined (without a y) x) (joined (without c x) y) (record {
      seen = changed_flag a.seen c.seen x.seen y.seen p.seen q.seen;
      aged = changed_flag a.aged c.aged x.aged y.aged p.aged q.aged;
      replied = changed_flag a.replied c.replied x.replied y.replied p.replied q.replied;
      flagged = changed_flag a.flagged c.flagged x.flagged y.flagged p.flagged q.flagged;
      passed = changed_flag a.passed c.passed x.passed y.passed p.passed q.passed;
      draft = changed_flag a.draft c.draft x.draft y.draft p.draft q.draft;
      trashed = changed_flag a.trashed c.trashed x.trashed y.trashed p.trashed q.trashed;
    })

pub left_apart : (a c h : Flags) → overlap (without a h) (shared c h) ≡ false
left_apart a c h = overlap_none (without a h) (shared c h) (record {
  seen = left_flag a.seen c.seen h.seen;
  aged = left_flag a.aged c.aged h.aged;
  replied = left_flag a.replied c.replied h.replied;
  flagged = left_flag a.flagged c.flagged h.flagged;
  passed = left_flag a.passed c.passed h.passed;
  draft = left_flag a.draft c.draft h.draft;
  trashed = left_flag a.trashed c.trashed h.trashed;
})
