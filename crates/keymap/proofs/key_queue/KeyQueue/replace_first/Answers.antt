use Rattle.std.proofs.Common.{◌∙◌, ap, drop}
use Rattle.std.proofs.lemmas.List.{drop-drop}
use Rattle.keymap.proofs.key_queue.KeyQueue.replace_first.Goals as goal

pub loop-key-preserved : goal.loop-key-preserved
loop-key-preserved c = record {
  items = c.pop_front.ensures.rest ∙ ap (drop 1) c.loop-key.invariant.items
      ∙ drop-drop 1 c.loop-key._key c.self.inside.keys.items;
  room = c.pop_front.ensures.capacity ∙ c.loop-key.invariant.room;
  replaced = c.loop-key.invariant.replaced;
}
