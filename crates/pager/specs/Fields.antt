-- For the code alone: the fields of a pager.
use Rattle.std.specs.Prelude.{◌≡◌, ◌≤◌, ℕ, true, List, [], map, slice_index_or}
use Rattle.std.specs.List.{list_all}
use Rattle.mail_base.specs.Series.{plain_texts}
use Rattle.pager.specs.Broken.{is_shown}
use Rattle.pager.specs.Pager.{PlainPager, last_number}
use Rattle.pager.specs.declared.pager.Pager.TheInside.{Inside}

-- the texts at these places; past the last a text is empty
abbrev pub texts_at : List (List ℕ) → List ℕ → List (List ℕ)
texts_at texts places = map (λ place. slice_index_or texts place []) places

-- a pager as contracts see it
abbrev pub plain_pager : Inside → PlainPager
plain_pager pager = record {
  cols = pager.cols;
  all = pager.texts.done;
  unquoted = texts_at pager.texts.done pager.unquoted.items;
  hidden = pager.hidden;
  top = pager.top;
  attachments = plain_texts pager.attachments;
}

-- a screen shows all lines as they stand, and there is a line at the top unless there is none
pub record IsPaged (pager : PlainPager) : Type 0 where
  pub all : list_all (is_shown pager.cols) pager.all ≡ true
  pub unquoted : list_all (is_shown pager.cols) pager.unquoted ≡ true
  pub top : pager.top ≤ last_number pager
