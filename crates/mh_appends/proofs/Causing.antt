-- Why a message was not put under its number.
use Rattle.std.proofs.Common.{Err, List, Ok, Option, Result, inl, inr, ℕ}
use Rattle.std.specs.Prelude.{IfErr}
use Rattle.mail_base.specs.declared.flags.Flags.{Flags}
use Rattle.disk_model.specs.Journal.{Past}
use Rattle.folder_changes.specs.Refused.{IsBetween}
use Rattle.folder_changes.specs.declared.sync_error.SyncError.{SyncError}
use Rattle.folder_drivers.specs.MhAppend.{MhAppendRefused}
use Rattle.mh_appends.specs.Leftovers.{MakesReady}
use Rattle.mh_appends.specs.Placing.{AreChosen, IsPlaced}
use Rattle.mh_appends.specs.Putting.{FailsPut}
use Rattle.mh_appends.specs.declared.places.Places.{Places}
use Rattle.mh_appends.proofs.Meeting.{in_way}
use Rattle.mh_appends.proofs.Refusing.{not_held, only_held, ready_hush}

-- the message was not put under its number
pub put_refused : (path core : List ℕ) (places : Places) (flags : Flags)
    (is : IsPlaced path places core) (old mid new : Option Past) → MakesReady path old mid
    → AreChosen path old mid places → (result : Result (Unit {0}) SyncError)
    → IfErr result (λ told. FailsPut path places flags core told mid new)
    → IfErr result (λ told. IsBetween (MhAppendRefused path told) old new)
put_refused path core places flags is old mid new ready chosen (Ok v) fails = tt
put_refused path core places flags is old mid new ready chosen (Err told) (inl way) =
    in_way path core places is told old mid new
    (ready_hush path core places flags is old mid ready chosen) chosen way
put_refused path core places flags is old mid new ready chosen (Err told) (inr (inl not)) =
    not_held path core places flags is old mid ready chosen told new not
put_refused path core places flags is old mid new ready chosen (Err told) (inr (inr only)) =
    only_held path core places flags is old mid ready chosen told new only
