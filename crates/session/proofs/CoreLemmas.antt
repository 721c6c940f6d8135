-- Cores whose desk is another stand as it is said.
use Rattle.std.proofs.Common.{◌≡◌, ◌∙◌, List, ap, subst, sym}
use Rattle.folder_letters.specs.Letters.{Mail}
use Rattle.index_view.specs.View.{IsOf}
use Rattle.session_index.specs.Desk.{Holds, PlainDesk, PlainWanted}
use Rattle.session_index.specs.declared.desk.Desk.{Desk}
use Rattle.session.specs.Core.{CoreState, IsOver, Reads, Stands, plain_core, with_desk}
use Rattle.session.specs.declared.core_state.Core.{Core}
use Rattle.session_screen.specs.declared.window.Window.{Window}

pub stands_by : (mails : List Mail) (core : Core) (d : Desk) (wanted : PlainDesk)
    → Holds mails wanted d
    → Stands mails (with_desk wanted (plain_core core)) (record core { desk = d })
stands_by mails core d wanted h = record {
  is_of = h.is_of;
  same = ap (λ (w : PlainDesk). with_desk w (plain_core core)) h.same;
}

pub stands_as : (mails : List Mail) (core : Core) (a b : CoreState) → a ≡ b
    → Stands mails a core → Stands mails b core
stands_as mails core a b is s = record { is_of = s.is_of; same = s.same ∙ is }

-- another desk over the same index
pub over_desk : (mails : List Mail) (window : Window) (old new : Core)
    → new ≡ record old { desk = new.desk } → IsOf mails new.desk.view → IsOver mails window old
    → IsOver mails window new
over_desk mails window old new same is_of over = record {
  is_of = is_of;
  reads = subst (Reads mails window) (sym same) over.reads;
}

-- the same view
pub over_still : (mails : List Mail) (window : Window) (old new : Core)
    → new ≡ record old { desk = new.desk } → new.desk.view ≡ old.desk.view
    → IsOver mails window old → IsOver mails window new
over_still mails window old new same view over = over_desk mails window old new same
    (subst (IsOf mails) (sym view) over.is_of) over

abbrev pub wanting : PlainWanted → CoreState → CoreState
wanting w c = with_desk (record c.desk { wanted = w }) c
