use Rattle.std.proofs.Common.{◌≡◌, length, map}
use Rattle.folder_letters.specs.Letters.{plain_letter}
use Rattle.index_view.specs.View.{IsOf}
use Rattle.session_index.specs.Acts.{acted_all}
use Rattle.session_index.specs.Index.{index_of}
use Rattle.session_index.proofs.acting.act_on_each.Given as goal

abbrev pub invariant-loop-first : goal.invariant-loop-first
invariant-loop-first l = record {
  is_of : IsOf (map plain_letter l.archive.items) l.view;
  same : acted_all (map plain_letter l.archive.items) l.act l.left (index_of l.view)
      ≡ acted_all (map plain_letter l.archive.items) l.act l.fn.ids (index_of l.initial.view);
}

abbrev pub decreases-loop-first : goal.decreases-loop-first
decreases-loop-first l = length l.left
