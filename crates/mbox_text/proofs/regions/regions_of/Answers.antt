use Rattle.std.proofs.Common.{◌≡◌, ◌+◌, ◌-◌, ◌++◌, ◌<◌, ℕ, List, [], ◌∷◌, Bool, true, false, ◌&&◌}
use Rattle.std.proofs.Common.{Option, Some, None, length, drop, take, sym, ap, subst, ◌∙◌, arith}
use Rattle.std.proofs.Common.{take_all, length-drop, append_assoc}
use Rattle.std.specs.Prelude.{if◌then◌else◌}
use Rattle.std.proofs.lemmas.List.{drop-drop}
use Rattle.memchr.specs.Find.{FindsNeedle}
use Rattle.bstr.specs.Text.{lines_of}
use Rattle.mail_base.specs.Lines.{first_line}
use Rattle.folder_core.specs.declared.region.Region.{Region}
use Rattle.folder_core.specs.Mbox.{is_postmark}
use Rattle.folder_core.proofs.Messages.{region_at}
use Rattle.mbox_text.specs.Regions.{last_empty}
use Rattle.mbox_text.proofs.RegionsLemmas.{feed_from, found_none, found_step, open_at}
use Rattle.mbox_text.proofs.RegionsLemmas.{open_regions}
use Rattle.mbox_text.proofs.regions.regions_of.Goals as goal

pub loop-feed-init : goal.loop-feed-init
loop-feed-init c = record {
  cut = ap (λ (r : List Region). r ++ open_at 0 0 (lines_of c.args.bytes.now)) c.new-regions.ensures
      ∙ open_regions c.args.bytes.now c.requires;
  within = c.requires;
}

-- what is left of the file
left_whole : (at : ℕ) (bytes : List ℕ) → take (length bytes - at) (drop at bytes) ≡ drop at bytes
left_whole at bytes = take_all _ _ (omega (arith, length-drop at bytes))

-- a search in what is left
abbrev Searched : ℕ → List ℕ → Option ℕ → Type 0
Searched at bytes found = FindsNeedle (take (length bytes - at) (drop at bytes)) feed_from 0 found

found_within : (at k : ℕ) (bytes : List ℕ) → Searched at bytes (Some k) → at + k + 1 < length bytes
found_within at k bytes found =
    omega (arith, found.1.fits, ap length (left_whole at bytes), length-drop at bytes)

-- a step of the search, in the file
step : (start at k : ℕ) (bytes : List ℕ) (border : Bool) → Searched at bytes (Some k)
    → border ≡ (last_empty false (lines_of (take (at + k + 1 - at) (drop at bytes)))
    && is_postmark
    (first_line (lines_of (take (length bytes - (at + k + 1)) (drop (at + k + 1) bytes)))))
    → open_at start at (lines_of (drop at bytes))
    ≡ (if border
    then region_at start (at + k + 1)
    ∷ open_at (at + k + 1) (at + k + 1) (lines_of (drop (at + k + 1) bytes))
    else open_at start (at + k + 1) (lines_of (drop (at + k + 1) bytes)))
step start at k bytes border found told =
    let n = at + k + 1 in
    let s = drop at bytes in
    let here =
    subst (λ (l : List ℕ). FindsNeedle l feed_from 0 (Some k)) (left_whole at bytes) found in
    let size : n - at ≡ k + 1 = omega arith in
    let place : at + (k + 1) ≡ n = omega arith in
    let back : drop (k + 1) s ≡ drop n bytes =
    drop-drop (k + 1) at bytes ∙ ap (λ m. drop m bytes) place in
    let same : border
    ≡ (last_empty false (lines_of (take (k + 1) s))
    && is_postmark (first_line (lines_of (drop (k + 1) s)))) =
    told
    ∙ ap (λ m. last_empty false (lines_of (take m s))
    && is_postmark (first_line (lines_of (take (length bytes - n) (drop n bytes))))) size
    ∙ ap (λ l. last_empty false (lines_of (take (k + 1) s))
    && is_postmark (first_line (lines_of l)))
    (left_whole n bytes ∙ sym back) in
    found_step start at s k here
    ∙ ap (λ t. if t then region_at start n ∷ open_at n n (lines_of (drop (k + 1) s))
    else open_at start n (lines_of (drop (k + 1) s))) (sym same)
    ∙ ap (λ l. if border then region_at start n ∷ open_at n n (lines_of l)
    else open_at start n (lines_of l)) back

pub loop-feed-preserved-in_ok-push : goal.loop-feed-preserved-in_ok-push
loop-feed-preserved-in_ok-push c =
    let at = c.loop-feed in
    let bytes = c.args.bytes.now in
    let next = at.at + c.in-Some.feed + 1 in
    let needle = c.new-finder.ensures ∙ c.as_slice.ensures in
    let found : Searched at.at bytes (Some c.in-Some.feed) =
    subst (λ (n : List ℕ). FindsNeedle (take (length bytes - at.at) (drop at.at bytes)) n 0
    (Some c.in-Some.feed)) needle
    c.in-Some.ensures in
    record {
      cut = ap (λ (r : List Region). r ++ open_at next next (lines_of (drop next bytes)))
          c.in_ok-push.ensures.ok
          ∙ append_assoc at.regions.items (region_at at.start next ∷ [])
          (open_at next next (lines_of (drop next bytes)))
          ∙ ap (λ (r : List Region). at.regions.items ++ r)
          (sym (step at.start at.at c.in-Some.feed bytes true found
          (sym c.if-is_border.true ∙ c.is_border.ensures)))
          ∙ at.invariant.cut;
      within = found_within at.at c.in-Some.feed bytes found;
    }

pub loop-feed-preserved : goal.loop-feed-preserved
loop-feed-preserved c =
    let at = c.loop-feed in
    let bytes = c.args.bytes.now in
    let needle = c.new-finder.ensures ∙ c.as_slice.ensures in
    let found : Searched at.at bytes (Some c.in-Some.feed) =
    subst (λ (n : List ℕ). FindsNeedle (take (length bytes - at.at) (drop at.at bytes)) n 0
    (Some c.in-Some.feed)) needle
    c.in-Some.ensures in
    record {
      cut = ap (λ (r : List Region). at.regions.items ++ r)
          (sym (step at.start at.at c.in-Some.feed bytes false found
          (sym c.if-is_border.false ∙ c.is_border.ensures)))
          ∙ at.invariant.cut;
      within = found_within at.at c.in-Some.feed bytes found;
    }

pub returns : goal.returns
returns c =
    let at = c.loop-feed in
    let bytes = c.args.bytes.now in
    let needle = c.new-finder.ensures ∙ c.as_slice.ensures in
    let found : FindsNeedle (drop at.at bytes) feed_from 0 None =
    subst (λ (l : List ℕ). FindsNeedle l feed_from 0 None) (left_whole at.at bytes)
    (subst (λ (n : List ℕ). FindsNeedle (take (length bytes - at.at) (drop at.at bytes)) n 0 None)
    needle
    c.in_default.ensures) in
    let end : at.at + length (drop at.at bytes) ≡ length bytes =
    omega (arith, at.invariant.within, length-drop at.at bytes) in
    c.in_ok-push-2.ensures.ok
    ∙ ap (λ (n : ℕ). at.regions.items ++ region_at at.start n ∷ []) (sym end)
    ∙ ap (λ (r : List Region). at.regions.items ++ r)
    (sym (found_none at.start at.at (drop at.at bytes) found))
    ∙ at.invariant.cut
