use Rattle.std.proofs.Common.{arith, inl, inr, refl}
use Rattle.std.proofs.lemmas.Result.{on_ok_weaker}
use Rattle.mh_folder.proofs.TakeLemmas.{some_bytes}
use Rattle.mh_folder.proofs.walk.Walk.put_same.Goals as goal

pub returns-then-length-known-clause-ok : goal.returns-then-length-known-clause-ok
returns-then-length-known-clause-ok c =
    on_ok_weaker c.keep.result (λ stays. λ bytes are. inr (inl (record {
      file = c.args.known.now;
      is = record {
        is = refl;
        stamp_is = refl;
        some = some_bytes c.args.raw.items c.len-length.result c.len-length.ensures
            c.if-length-eq0.false;
        less = omega (arith, c.if-length-known.true, c.len-length.ensures);
      };
      stays = stays bytes c.args.archive.now.items are;
    }))) c.keep.ensures.ok
