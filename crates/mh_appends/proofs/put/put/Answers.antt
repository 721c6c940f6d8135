use Rattle.folder_drivers.proofs.Refusing.{blamed_now}
use Rattle.std.proofs.Common.{inl, inr}
use Rattle.mh_appends.proofs.Putting.{all_put, holds_at, message_put, none_put, not_made, some_put}
use Rattle.mh_appends.proofs.put.put.Goals as goal

pub returns-in-Err-Exists-clause-some : goal.returns-in-Err-Exists-clause-some
returns-in-Err-Exists-clause-some g c =
    none_put c.args.path.now c.args.text.now c.args.places.now c.requires
    c.as_str-held.ensures.value c.in-Err-Exists.ensures.called

pub returns-in-Err : goal.returns-in-Err
returns-in-Err g c = record {
  some = none_put c.args.path.now c.args.text.now c.args.places.now c.requires
      c.as_str-held.ensures.value c.in-Err.ensures.called;
  ok = tt;
  puts = tt;
  fails = inr (inl (record {
    why = c.in-Err.why;
    is = c.from.ensures;
    fails = not_made c.args.places.now c.as_str-held.ensures.value c.in-Err.ensures.called;
  }));
  blames = blamed_now c.in-Err.why c.from.result c.from.ensures c.in-Err.ensures.counts;
}

pub returns-clause-some : goal.returns-clause-some
returns-clause-some g c =
    some_put c.args.path.now c.args.text.now c.args.places.now c.args.flags c.requires _
    (holds_at c.args.places.now c.as_str-held.ensures.value c.in-Ok.ensures.called)
    c.fill.result c.fill.ensures.fills

pub returns-clause-ok : goal.returns-clause-ok
returns-clause-ok g c =
    all_put c.args.path.now c.args.text.now c.args.places.now c.args.flags c.requires _
    (holds_at c.args.places.now c.as_str-held.ensures.value c.in-Ok.ensures.called)
    c.fill.result c.fill.ensures.fills

pub returns-clause-puts : goal.returns-clause-puts
returns-clause-puts g c =
    message_put c.args.path.now c.args.text.now c.args.places.now c.args.flags c.requires _
    (holds_at c.args.places.now c.as_str-held.ensures.value c.in-Ok.ensures.called)
    c.fill.result c.fill.ensures.fills
