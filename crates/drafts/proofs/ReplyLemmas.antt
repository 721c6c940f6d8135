-- The drafts that are begun are drafts that may be.
use Rattle.std.proofs.Common.{◌≡◌, ℕ, ◌&&◌, Bool, true, false, List, [], ◌∷◌, ◌++◌, map, filter}
use Rattle.std.proofs.Common.{Option, Some, None, refl, ap, ◌∙◌, codes}
use Rattle.std.specs.Prelude.{if◌then◌else◌}
use Rattle.std.specs.List.{list_all}
use Rattle.std.proofs.lemmas.Bool.{and_from}
use Rattle.mail_base.specs.Lines.{PlainField}
use Rattle.headers.specs.Decode.{decoded_words}
use Rattle.headers.specs.Subject.{base_of}
use Rattle.headers.specs.Values.{subject}
use Rattle.drafts.specs.Clean.{clean}
use Rattle.drafts.specs.PlainDraft.{PlainDraft, can_be, is_id, is_id_if_any, is_text}
use Rattle.drafts.specs.Reply.{ids_before, kept_id, new_draft, own_id, quoted, replied_to}
use Rattle.drafts.specs.Reply.{reply_with}
use Rattle.drafts.proofs.CleanLemmas.{clean_text, text_append}

-- a draft of these parts
abbrev pub drafted : List ℕ → List ℕ → Option (List ℕ) → List (List ℕ) → List (List ℕ) → PlainDraft
drafted to subject reply references body = record {
  to = to;
  subject = subject;
  in_reply_to = reply;
  references = references;
  body = body;
}

-- drafts of the same parts are the same
pub drafted_same : (to to' subject subject' : List ℕ) (reply reply' : Option (List ℕ))
    (references references' body body' : List (List ℕ))
    → to ≡ to' → subject ≡ subject' → reply ≡ reply' → references ≡ references' → body ≡ body'
    → drafted to subject reply references body ≡ drafted to' subject' reply' references' body'
drafted_same to to' subject subject' reply reply' references references' body body' a b c d e =
    ap (λ (x : List ℕ). drafted x subject reply references body) a
    ∙ ap (λ (x : List ℕ). drafted to' x reply references body) b
    ∙ ap (λ (x : Option (List ℕ)). drafted to' subject' x references body) c
    ∙ ap (λ (x : List (List ℕ)). drafted to' subject' reply' x body) d
    ∙ ap (drafted to' subject' reply' references') e

-- a draft of parts that may be
pub drafted_can : (to subject : List ℕ) (reply : Option (List ℕ)) (references body : List (List ℕ))
    → is_text to ≡ true → is_text subject ≡ true → is_id_if_any reply ≡ true
    → list_all is_id references ≡ true → list_all is_text body ≡ true
    → can_be (drafted to subject reply references body) ≡ true
drafted_can to subject reply references body a b c d e =
    and_from (is_text to && is_text subject && is_id_if_any reply && list_all is_id references)
    (list_all is_text body)
    (and_from (is_text to && is_text subject && is_id_if_any reply) (list_all is_id references)
    (and_from (is_text to && is_text subject) (is_id_if_any reply)
    (and_from (is_text to) (is_text subject) a b) c) d) e

pub new_can : (to subject : List ℕ) → can_be (new_draft to subject) ≡ true
new_can to subject =
    drafted_can (clean to) (clean subject) None [] [] (clean_text to) (clean_text subject) refl refl
    refl

kept_fits : (o : Option (List ℕ)) → is_id_if_any (kept_id o) ≡ true
kept_fits None = refl
kept_fits (Some id) = by_test (is_id id) refl
  where
    by_test : (p : Bool) → is_id id ≡ p → is_id_if_any (if p then Some id else None) ≡ true
    by_test true is = is
    by_test false is = refl

ids_fit : (ids : List (List ℕ)) → list_all is_id (filter is_id ids) ≡ true
ids_fit [] = refl
ids_fit (id ∷ ids) = by_test (is_id id) refl (ids_fit ids)
  where
    by_test : (p : Bool) → is_id id ≡ p → list_all is_id (filter is_id ids) ≡ true
        → list_all is_id (if p then id ∷ filter is_id ids else filter is_id ids) ≡ true
    by_test true is more = and_from (is_id id) (list_all is_id (filter is_id ids)) is more
    by_test false is more = more

pub reply_can : (fields : List PlainField) (body : List (List ℕ)) → list_all is_text body ≡ true
    → can_be (reply_with fields body) ≡ true
reply_can fields body all =
    drafted_can (clean (decoded_words (replied_to fields)))
    (clean (codes "Re: " ++ base_of (subject fields))) (kept_id (own_id fields))
    (filter is_id (ids_before fields)) body
    (clean_text (decoded_words (replied_to fields)))
    (clean_text (codes "Re: " ++ base_of (subject fields)))
    (kept_fits (own_id fields)) (ids_fit (ids_before fields)) all

pub quoted_texts : (indent : List ℕ) (lines : List (List ℕ))
    → list_all is_text (map (quoted indent) lines) ≡ true
quoted_texts indent [] = refl
quoted_texts indent (line ∷ lines) =
    and_from (is_text (quoted indent line)) (list_all is_text (map (quoted indent) lines))
    (text_append (clean indent) (clean line) (clean_text indent) (clean_text line))
    (quoted_texts indent lines)
