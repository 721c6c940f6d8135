use Rattle.std.proofs.Common.{◌≡◌, ◌||◌, ◌++◌, List, Vec}
use Rattle.std.specs.declared.alloc.Global.{Global}
use Rattle.keymap.specs.Bindings.{is_among, is_front_below}
use Rattle.keymap.specs.declared.key.Key.{Key}
use Rattle.keymap.proofs.bindings.add_each.Given as goal

abbrev pub invariant-loop-size : goal.invariant-loop-size
invariant-loop-size l = record {
  among : (s : List Key) → is_among l.fronts.keys s
      ≡ is_among l.initial.fronts.keys s || is_front_below l.size s l.keys;
  grown : (more : List (Vec Key Global)) × (l.fronts.keys ≡ l.initial.fronts.keys ++ more);
}
