-- What the messages as patterns see them have at a place.
use Rattle.std.proofs.Common.{◌≡◌, ◌∙◌, ◌<◌, ℕ, List, None, Option, Some, ap, arith}
use Rattle.std.proofs.Common.{length, map, option_map, refl, slice_get, slice_index_or, subst, sym}
use Rattle.std.proofs.lemmas.List.{length-map}
use Rattle.std.proofs.lemmas.List.FromFn.{length-map-range_with_len}
use Rattle.std.proofs.lemmas.Option.{slice_get-get_or, slice_get-map}
use Rattle.std.proofs.lemmas.Simd.{map-map}
use Rattle.std.specs.List.{range_with_len}
use Rattle.patterns_match.specs.Listings.{Message}
use Rattle.patterns_match.specs.declared.row.Row.{Row}
use Rattle.index_listed.specs.Listed.{PlainListed, no_listed, plain_listed}
use Rattle.index_listed.specs.Threading.{LeadWithin, at, no_links}
use Rattle.index_listed.specs.declared.links.Links.{Links}
use Rattle.index_listed.proofs.PlaceLemmas.{map_at}
use Rattle.index_view.specs.Tables.{message_at, no_row, seen_of, table}
use Rattle.index_view.specs.declared.messages.Messages.{Messages}

module _ (ls : List PlainListed) (rows : List Row) (links : List Links) where
  pub table_long : length (table ls rows links) ≡ length ls
  table_long = length-map-range_with_len (message_at ls rows links) 0 (length ls)

  -- a part of the messages is told by a list that is as long
  module _ {X B : Type 0} (part : Message → B) (f : X → B) (xs : List X) (d : X)
      (long : length xs ≡ length ls)
      (same : (p : ℕ) → part (message_at ls rows links p) ≡ f (slice_index_or xs p d)) where
    told : map part (table ls rows links) ≡ map f xs
    told = map-map part (message_at ls rows links) (range_with_len 0 (length ls))
        ∙ (λ i. map (λ p. same p i) (range_with_len 0 (sym long i)))
        ∙ map_at f xs d

    pub told_at : (p : ℕ)
        → option_map part (slice_get (table ls rows links) p) ≡ option_map f (slice_get xs p)
    told_at p = sym (slice_get-map part (table ls rows links) p)
        ∙ ap (λ z. slice_get z p) told ∙ slice_get-map f xs p

module _ (m : Messages) where
  abbrev pub ls : List PlainListed
  ls = map plain_listed m.listed.now

  -- there are as many messages as are listed
  pub seen_long : length (seen_of m) ≡ length m.listed.now
  seen_long = table_long ls m.rows.now m.links.now ∙ length-map m.listed.now plain_listed

  -- a part that the listed messages tell
  pub told_listed : {B : Type 0} (part : Message → B) (f : PlainListed → B)
      → ((p : ℕ) → part (message_at ls m.rows.now m.links.now p)
      ≡ f (slice_index_or ls p no_listed))
      → (p : ℕ) → option_map part (slice_get (seen_of m) p)
      ≡ option_map f (option_map plain_listed (slice_get m.listed.now p))
  told_listed part f same p =
      told_at ls m.rows.now m.links.now part f ls no_listed refl same p
      ∙ ap (option_map f) (slice_get-map plain_listed m.listed.now p)

  pub in_links : (p : ℕ) → p < length (seen_of m) → p < length m.links.now
  in_links p low = omega (arith, seen_long, m.links_long)

  -- a part that their links tell
  pub told_links : {B : Type 0} (part : Message → B) (f : Links → B)
      → ((p : ℕ) → part (message_at ls m.rows.now m.links.now p) ≡ f (at m.links.now p))
      → (p : ℕ) → p < length (seen_of m)
      → Some (f (at m.links.now p)) ≡ option_map part (slice_get (seen_of m) p)
  told_links part f same p low =
      sym (told_at ls m.rows.now m.links.now part f m.links.now no_links
      (m.links_long ∙ sym (length-map m.listed.now plain_listed)) same p
      ∙ ap (option_map f) (slice_get-get_or m.links.now p no_links (in_links p low)))

  -- the links of a message lead to messages
  pub leads : (p : ℕ) → p < length (seen_of m)
      → LeadWithin (length (seen_of m)) (at m.links.now p)
  leads p low = subst (λ n. LeadWithin n (at m.links.now p)) (sym seen_long)
      (m.within p no_links (in_links p low))

  -- the rows are those of the messages
  pub told_row : (p : ℕ) → slice_get m.rows.now p
      ≡ option_map (λ (o : Message). o.row) (slice_get (seen_of m) p)
  told_row p = same_option (slice_get m.rows.now p)
      ∙ sym (told_at ls m.rows.now m.links.now (λ (o : Message). o.row) (λ (r : Row). r)
      m.rows.now no_row (m.rows_long ∙ sym (length-map m.listed.now plain_listed))
      (λ _. refl) p)
    where
      same_option : (o : Option Row) → o ≡ option_map (λ (r : Row). r) o
      same_option None = refl
      same_option (Some r) = refl
