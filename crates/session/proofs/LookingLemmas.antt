-- What a look at the folder leaves of a session.
use Rattle.std.proofs.Common.{◌≡◌, ◌≤◌, ◌<◌, ◌+◌, ◌++◌, ◌∷◌, ◌∙◌, ℕ, ℤ, Bool, true, false, not}
use Rattle.std.proofs.Common.{List, [], Option, Result, Ok, Err, ap, arith, inl, inr, length, map}
use Rattle.std.proofs.Common.{length-append, nat_lt, refl, subst, sym, take, if◌then◌else◌}
use Rattle.std.specs.List.{All}
use Rattle.std.specs.Prelude.{IsErrOf, OnErr}
use Rattle.std.proofs.Math.Seq.{take-append_seam}
use Rattle.std.proofs.lemmas.Bool.{ltb-true}
use Rattle.std.proofs.lemmas.List.{append-nil, length-map, take-map}
use Rattle.std.proofs.lemmas.List.Elements.{All-cons, All-nil}
use Rattle.mail_base.specs.Ordered.{IsIn}
use Rattle.mail_base.specs.Series.{Held}
use Rattle.mail_base.specs.declared.kind.Kind.{Kind}
use Rattle.disk_model.specs.Journal.{Past}
use Rattle.disk_model.specs.Seen.{Seen}
use Rattle.folder_letters.specs.Letters.{Mail, plain_letter}
use Rattle.folder_letters.specs.Listings.{ids_from}
use Rattle.folder_letters.specs.declared.letter.Letter.{Letter}
use Rattle.folder_letters.specs.declared.listing.Found.{Found}
use Rattle.folder_letters.specs.declared.listing.Listed.{Listed}
use Rattle.folder_core.specs.Keeping.{IsDifference, ids_differ, lists_id}
use Rattle.folder_core.specs.Known.{KnownFolder, front_below, shortened}
use Rattle.folder_core.specs.Right.{Right}
use Rattle.folder_core.specs.Scanned.{ListsFound}
use Rattle.folder_core.specs.declared.error.ScanError.{ScanError}
use Rattle.folder_core.specs.declared.error.ScanError.TheVariants as scan
use Rattle.folder_core.proofs.RightLemmas.{rise_differ}
use Rattle.index_view.specs.View.{IsOf, PlainView}
use Rattle.listing_laws.proofs.IdLemmas.{lists_at}
use Rattle.listing_laws.proofs.LawLemmas.{behind_is}
use Rattle.listing_laws.proofs.ListingLemmas.{ids_high}
use Rattle.listing_laws.proofs.MemberLemmas.{filter_in}
use Rattle.session_events.specs.Checking.{IsOpen, VisitsFolder, standing_over}
use Rattle.session_events.specs.Events.{Happening, CheckRefused, FolderChecked, PlainFound}
use Rattle.session_events.specs.Events.{held_found}
use Rattle.session_events.specs.Events.{plain_found}
use Rattle.session_events.specs.Happened.{AreNext, IsKnownOf}
use Rattle.session_events.specs.Telling.{Tells}
use Rattle.session_events.specs.declared.checking.Scanned.{Scanned}
use Rattle.session_events.specs.declared.event.Marks.{Marks}
use Rattle.session_events.specs.declared.open_folder.OpenFolder.{OpenFolder}
use Rattle.session_events.proofs.CheckLemmas.{letters_count, open_unvisited, tells_found}
use Rattle.session_events.proofs.CheckLemmas.{tells_refused, tells_starved, unvisited_known}
use Rattle.session_events.proofs.CheckLemmas.{unvisited_letters, visit_lists}
use Rattle.session.specs.Checking.{IsIndexShown, forgot_by, found_again, refused_again}
use Rattle.session.specs.Core.{CoreState, plain_core}
use Rattle.session.specs.Fitting.{Fits}
use Rattle.session.specs.Looking.{FindsNews, IsToldAs, LooksAgain, RefusesCheck, TakesIt}
use Rattle.session.specs.Runs.{State, looked_by, plain_session}
use Rattle.session.specs.declared.session_type.Session.{Session}
use Rattle.session.proofs.CheckingLemmas.{every_in, found_came, known_in}
use Rattle.session.proofs.FittingLemmas.{index_fits}

-- the letters of an archive
abbrev letters_of : List Letter → List Mail
letters_of archive = map plain_letter archive

-- the folder with what is known of it now
abbrev with_known : KnownFolder → OpenFolder → OpenFolder
with_known known folder = record folder { known = known }

-- a visit for the owner of the session
pub visits_by : {owner was : List ℕ} {archive archive' : List Letter}
    {known new_known : KnownFolder} {scanned : Scanned} {before after : Seen} → owner ≡ was
    → VisitsFolder owner archive archive' known new_known scanned before after
    → VisitsFolder was archive archive' known new_known scanned before after
visits_by {owner} {was} {archive} {archive'} {known} {new_known} {scanned} {before} {after} is
    visits = subst (λ (o : List ℕ). VisitsFolder o archive archive' known new_known scanned before
    after) is visits

-- no letter goes where a visit found something
pub met_still : (met : ℕ) (archive archive' : List Letter) (added : List Mail)
    → met ≡ length (letters_of archive)
    → letters_of archive' ≡ letters_of archive ++ added → met ≤ length archive'
met_still met archive archive' added is grown =
    omega (
      arith,
      is,
      ap length grown,
      length-append (letters_of archive) added,
      length-map archive' plain_letter,
    )

-- what a visit found of it is news
pub finds : (owner : List ℕ) (archive archive' : List Letter) (folder mid : OpenFolder)
    (known : KnownFolder) (scanned : Scanned) (theirs : Found) (before after : Seen)
    → IsOpen (letters_of archive) before.told folder
    → VisitsFolder owner archive archive' folder.known known scanned before after
    → scanned.answer ≡ Ok theirs → mid ≡ with_known known folder
    → FindsNews (letters_of archive) (letters_of archive') mid theirs
finds owner archive archive' folder mid known scanned theirs before after knows visits is same =
    subst (λ (f : OpenFolder). FindsNews (letters_of archive) (letters_of archive') f theirs)
    (sym same)
    (let found = visit_lists owner archive archive' folder.known known scanned theirs before after
    visits is in record {
      met = knows.met;
      added = found.added;
      grown = found.archived;
      within = knows.within;
      once = knows.once;
      below = visits.visits.right.within;
      ordered = visits.visits.right.ordered;
      was = folder.known.listing;
      known = knows.known;
      difference = found.difference;
      ids = found.ids ∙ ap (λ (n : ℕ). ids_from n theirs.came.items) (sym knows.met);
    })

-- What it found was taken in.
module _ (Has : Kind → Type 0) (quiet : Bool) (moment : ℤ) (old mid new : Session)
    (archive archive' : List Letter) (known : KnownFolder) (scanned : Scanned)
    (theirs found : Found) (before after : Seen)
    (knows : IsOpen (letters_of archive) before.told old.folder)
    (visits : VisitsFolder old.owner.items archive archive' old.folder.known known scanned before
    after)
    (is : scanned.answer ≡ Ok theirs)
    (same : mid ≡ record old { folder = with_known known old.folder })
    (takes : TakesIt quiet (letters_of archive') moment mid new found) where
  found_listed : ListsFound theirs (letters_of archive) (letters_of archive')
      (record old.folder.known { held = known.held }) known
  found_listed = visit_lists old.owner.items archive archive' old.folder.known known scanned theirs
      before after visits is

  found_news : FindsNews (letters_of archive) (letters_of archive') (with_known known old.folder)
      theirs
  found_news = finds old.owner.items archive archive' old.folder (with_known known old.folder) known
      scanned theirs before after knows visits is refl

  change : IsDifference old.folder.listing.items known.listing found
  change =
      subst (λ (s : Session). IsDifference s.folder.listing.items s.folder.known.listing found) same
      takes.difference

  difference : IsDifference old.folder.listing.items known.listing (held_found (plain_found found))
  difference = record { gone = change.gone; came = change.came; reflagged = change.reflagged }

  came : found.came.items ≡ theirs.came.items
  came = found_came (letters_of archive) (letters_of archive') (with_known known old.folder) theirs
      found found_news change

  letters_are : length (letters_of archive') ≡ old.folder.met + length found.came.items
  letters_are = letters_count Has old.folder.known.kind old.owner.items false old.folder archive
      archive' known scanned moment before after knows visits theirs is (plain_found found)
      difference (ap length came)

  known_is : new.folder.known ≡ known
  known_is = takes.known ∙ ap (λ (s : Session). s.folder.known) same

  path_is : new.folder.known.path ≡ old.folder.known.path
  path_is = ap (λ (k : KnownFolder). k.path) known_is
      ∙ ap (λ (k : KnownFolder). k.path) found_listed.kept

  found_kind : new.folder.known.kind ≡ old.folder.known.kind
  found_kind = ap (λ (k : KnownFolder). k.kind) known_is
      ∙ ap (λ (k : KnownFolder). k.kind) found_listed.kept

  -- the session is the one before it, with other parts
  found_rest : new ≡ record old { core = new.core; folder = new.folder }
  found_rest = takes.same
      ∙ ap (λ (s : Session). record s { core = new.core; folder = new.folder }) same

  found_core : plain_core new.core ≡ found_again quiet (letters_of archive') (plain_found found)
      (plain_core old.core)
  found_core = takes.core
      ∙ ap (λ (s : Session). found_again quiet (letters_of archive') (plain_found found)
      (plain_core s.core)) same

  listing_is : new.folder.listing.items ≡ known.listing
  listing_is = takes.listing ∙ ap (λ (s : Session). s.folder.known.listing) same

  found_arrives : (notes : Held (Held ℕ)) → plain_session new notes ≡ looked_by quiet
      (letters_of archive') (plain_session old notes)
      (FolderChecked moment (plain_found found) scanned.marks)
  found_arrives notes =
      let s : State = plain_session old notes in
      let behind = behind_is (letters_of archive') old.folder.listing.items known.listing
      (held_found (plain_found found)) knows.once visits.visits.right.ordered difference in
      ap (λ (n : Session). plain_session n notes) found_rest
      ∙ (λ i. record s {
        turn = record s.turn { core = found_core i };
        folder = record {
          path = path_is i;
          kind = found_kind i;
        };
        listing = (listing_is ∙ sym behind) i;
        forgot = takes.forgot i;
        met = (takes.met ∙ letters_are) i;
        checked = takes.checked i;
        refused = (takes.refused ∙ ap (λ (n : Session). n.folder.refused) same) i;
      })

  found_open : IsOpen (letters_of archive') after.told new.folder
  found_open = record {
    right = subst (λ (k : KnownFolder). Right k.kind (letters_of archive') k after.told)
        (sym known_is)
        (subst (λ (k : Kind). Right k (letters_of archive') known after.told)
        (sym (ap (λ (k : KnownFolder). k.kind) found_listed.kept)) visits.visits.right);
    known = subst (λ (f : Bool). IsKnownOf f new.folder.listing.items new.folder.known.listing)
        (sym takes.forgot)
        (ap (λ (k : KnownFolder). k.listing) known_is ∙ sym listing_is);
    within = subst (All (λ l. l.id.0 < length (letters_of archive'))) (sym listing_is)
        visits.visits.right.within;
    once = ap ids_differ listing_is
        ∙ rise_differ (letters_of archive') known.listing visits.visits.right.ordered;
    met = takes.met;
  }

  pub look_found : IsIndexShown (plain_core old.core) → Fits (letters_of archive) old
      → LooksAgain Has quiet moment old new archive archive'
      (FolderChecked moment (plain_found found) scanned.marks) before after
  look_found shown fits = record {
    check = tt;
    answers = refl;
    tells = λ empty purges. tells_found Has empty old.owner.items purges old.folder archive archive'
        known scanned moment before after knows visits theirs is (plain_found found) difference
        (ap length came);
    arrives = found_arrives;
    next = ap (map (λ (l : Listed). l.id)) came ∙ found_listed.ids
        ∙ ap (λ (n : ℕ). ids_from n theirs.came.items) (sym knows.met)
        ∙ ap (ids_from old.folder.met) (sym came);
    met = letters_are;
    added = found_listed.added;
    letters = found_listed.archived;
    known = found_open;
    kind = found_kind;
    checked = takes.checked;
    fits = index_fits (letters_of archive') old new found_rest takes.is_of
        (ap (λ (c : CoreState). c.reader) found_core) shown fits.can;
    stage = ap (λ (s : Session). s.stage) found_rest;
    window = ap (λ (s : Session). s.window) found_rest;
  }

-- an event has the moment of its check
pub told_at : (Has : Kind → Type 0) (quiet : Bool) (moment said : ℤ) (old new : Session)
    (archive archive' : List Letter) (found : PlainFound) (marks : Marks) (before after : Seen)
    → said ≡ moment
    → LooksAgain Has quiet moment old new archive archive' (FolderChecked moment found marks)
    before after
    → LooksAgain Has quiet moment old new archive archive' (FolderChecked said found marks) before
    after
told_at Has quiet moment said old new archive archive' found marks before after same looks =
    subst (λ (m : ℤ). LooksAgain Has quiet moment old new archive archive'
    (FolderChecked m found marks) before after) (sym same) looks

-- A check was refused.

-- less is known by a cause, or as much
known_by : (why : ScanError) (forgot : Bool) (listing known : List Listed)
    → IsKnownOf forgot listing known → IsKnownOf (forgot_by why forgot) listing known
known_by scan.NoMemory forgot listing known is =
    every_in (λ l. lists_id listing l.id.0 ≡ true) known (known_in forgot listing known is)
known_by _ forgot listing known is = is

-- The folder is as before, but for what is known of it, and this was told.
module _ (Has : Kind → Type 0) (quiet : Bool) (moment : ℤ) (why : ScanError) (marks : Marks)
    (old mid new : Session) (event : Happening) (archive archive' : List Letter)
    (before after : Seen) (folder : OpenFolder)
    (same : mid ≡ record old { folder = folder })
    (letters : letters_of archive' ≡ letters_of archive)
    (open_is : IsOpen (letters_of archive) after.told folder)
    (path : folder.known.path ≡ old.folder.known.path)
    (kind : folder.known.kind ≡ old.folder.known.kind)
    (listing : folder.listing ≡ old.folder.listing) (met : folder.met ≡ old.folder.met)
    (late : folder.refused ≡ old.folder.refused)
    (refuses : RefusesCheck quiet why moment marks mid new event)
    (forgot : forgot_by refuses.told folder.forgot ≡ forgot_by refuses.told old.folder.forgot)
    (tells : (empty : Kind) → (purges : Bool) → Tells Has (standing_over empty old.owner.items
    purges old.folder) (letters_of archive') (CheckRefused moment refuses.told marks) before after)
  where
    abbrev cause_told : ScanError
    cause_told = refuses.told

    folder_is : new.folder ≡ record folder {
      forgot = forgot_by cause_told folder.forgot;
      checked = moment;
    }
    folder_is = refuses.folder
        ∙ ap (λ (s : Session). record s.folder {
          forgot = forgot_by cause_told s.folder.forgot;
          checked = moment;
        }) same

    refused_rest : new ≡ record old { core = new.core; folder = new.folder }
    refused_rest = refuses.same
        ∙ ap (λ (s : Session). record s { core = new.core; folder = new.folder }) same

    refused_core : plain_core new.core ≡ refused_again quiet cause_told (plain_core old.core)
    refused_core = refuses.core
        ∙ ap (λ (s : Session). refused_again quiet cause_told (plain_core s.core)) same

    refused_arrives : (notes : Held (Held ℕ)) → plain_session new notes ≡ looked_by quiet
        (letters_of archive') (plain_session old notes) (CheckRefused moment cause_told marks)
    refused_arrives notes =
        let s : State = plain_session old notes in
        ap (λ (n : Session). plain_session n notes) refused_rest
        ∙ ap (λ (f : OpenFolder). plain_session (record old { core = new.core; folder = f }) notes)
        folder_is
        ∙ (λ i. record s {
          turn = record s.turn { core = refused_core i };
          folder = record { path = path i; kind = kind i };
          listing = (listing i).items;
          forgot = forgot i;
          met = met i;
          checked = moment;
          refused = late i;
        })

    refused_open : IsOpen (letters_of archive') after.told new.folder
    refused_open =
        subst (λ (f : OpenFolder). IsOpen (letters_of archive') after.told f) (sym folder_is)
        (subst (λ (l : List Mail). IsOpen l after.told
        (record folder { forgot = forgot_by cause_told folder.forgot; checked = moment }))
        (sym letters)
        (record {
          right = open_is.right;
          known = known_by cause_told folder.forgot folder.listing.items folder.known.listing
              open_is.known;
          within = open_is.within;
          once = open_is.once;
          met = open_is.met;
        }))

    pub look_refused : IsIndexShown (plain_core old.core)
        → Fits (letters_of archive) old → old.folder.met ≡ length (letters_of archive)
        → ((w : ScanError) → w ≡ cause_told → AreNext old.folder.met (CheckRefused moment w marks))
        → LooksAgain Has quiet moment old new archive archive' event before after
    look_refused shown fits here next =
        subst (λ (e : Happening). LooksAgain Has quiet moment old new archive archive' e before after)
        (sym refuses.event_is) (record {
          check = tt;
          answers = refl;
          tells = tells;
          arrives = refused_arrives;
          next = next cause_told refl;
          met = ap length letters ∙ sym here;
          added = [];
          letters = letters ∙ sym (append-nil (letters_of archive));
          known = refused_open;
          kind = ap (λ (f : OpenFolder). f.known.kind) folder_is ∙ kind;
          checked = ap (λ (f : OpenFolder). f.checked) folder_is;
          fits = index_fits (letters_of archive') old new refused_rest
              (subst (λ (v : PlainView). IsOf (letters_of archive') v)
              (sym (refuses.view ∙ ap (λ (s : Session). s.core.desk.view) same))
              (subst (λ (l : List Mail). IsOf l old.core.desk.view) (sym letters) fits.is_of))
              (ap (λ (c : CoreState). c.reader) refused_core) shown fits.can;
          stage = ap (λ (s : Session). s.stage) refused_rest;
          window = ap (λ (s : Session). s.window) refused_rest;
        })

-- What is left of what is known where new letters are forgotten.

front_in : (P : Listed → Type 0) (bound : ℕ) (known : List Listed)
    → ((l : Listed) → IsIn l known → l.id.0 < bound → P l) → All P (front_below bound known)
front_in P bound [] is = All-nil P
front_in P bound (l ∷ known) is = by_test (nat_lt l.id.0 bound) refl
    (front_in P bound known (λ m held low. is m (inr held) low))
  where
    by_test : (t : Bool) → nat_lt l.id.0 bound ≡ t → All P (front_below bound known)
        → All P (if t then l ∷ front_below bound known else [])
    by_test true low rest = All-cons P l (front_below bound known)
        (is l (inl refl) (ltb-true l.id.0 bound low)) rest
    by_test false low rest = All-nil P

-- a message of before the new letters is listed
was_listed : (listing was known : List Listed) (theirs : Found) (bound : ℕ) (forgot : Bool)
    → IsKnownOf forgot listing was → IsDifference was known theirs
    → map (λ l. l.id) theirs.came.items ≡ ids_from bound theirs.came.items
    → (l : Listed) → IsIn l known → l.id.0 < bound → lists_id listing l.id.0 ≡ true
was_listed listing was known theirs bound forgot is difference ids l held low =
    by_test (lists_id was l.id.0) refl
  where
    by_test : (t : Bool) → lists_id was l.id.0 ≡ t → lists_id listing l.id.0 ≡ true
    by_test true there =
        let at = lists_at was l.id.0 there in
        ap (lists_id listing) (sym at.id_is) ∙ known_in forgot listing was is at.message at.held
    by_test false none = absurd
        (let far : bound ≤ l.id.0 = ids_high bound theirs.came.items l ids
        (subst (IsIn l) (sym difference.came)
        (filter_in (λ m. not (lists_id was m.id.0)) l known held (ap not none))) in
        omega (arith, low, far))

-- what is known still is listed
pub forgot_known : (mails letters : List Mail) (folder : OpenFolder) (theirs : Found)
    → FindsNews mails letters folder theirs
    → IsKnownOf true folder.listing.items (front_below folder.met folder.known.listing)
forgot_known mails letters folder theirs news =
    front_in (λ l. lists_id folder.listing.items l.id.0 ≡ true) folder.met folder.known.listing
    (was_listed folder.listing.items news.was folder.known.listing theirs folder.met folder.forgot
    news.known news.difference news.ids)

-- A visit was refused.
module _ (Has : Kind → Type 0) (quiet : Bool) (moment : ℤ) (old mid new : Session)
    (archive archive' : List Letter) (scanned : Scanned) (why : ScanError) (event : Happening)
    (before after : Seen)
    (knows : IsOpen (letters_of archive) before.told old.folder) (folder : OpenFolder)
    (visits : VisitsFolder old.owner.items archive archive' old.folder.known folder.known scanned
    before after)
    (folder_same : folder ≡ with_known folder.known old.folder)
    (is : scanned.answer ≡ Err why)
    (same : mid ≡ record old { folder = folder })
    (refuses : RefusesCheck quiet why moment scanned.marks mid new event) where
  known_kept : folder.known ≡ record old.folder.known { held = folder.known.held }
  known_kept = unvisited_known old.owner.items archive archive' old.folder.known folder.known
      scanned why before after visits is

  letters_same : letters_of archive' ≡ letters_of archive
  letters_same = unvisited_letters old.owner.items archive archive' old.folder.known folder.known
      scanned why before after visits is

  tells_by : (empty : Kind) → (purges : Bool) → (told : ScanError) → IsToldAs why told
      → Tells Has (standing_over empty old.owner.items purges old.folder) (letters_of archive')
      (CheckRefused moment told scanned.marks) before after
  tells_by empty purges told (inl same_cause) =
      subst (λ (w : ScanError). Tells Has (standing_over empty old.owner.items purges old.folder)
      (letters_of archive') (CheckRefused moment w scanned.marks) before after) (sym same_cause)
      (subst (λ (l : List Mail). Tells Has (standing_over empty old.owner.items purges old.folder) l
      (CheckRefused moment why scanned.marks) before after) (sym letters_same)
      (tells_refused Has empty old.owner.items purges old.folder archive archive' folder.known
      scanned moment before after knows visits why is))
  tells_by empty purges told (inr starved) =
      subst (λ (w : ScanError). Tells Has (standing_over empty old.owner.items purges old.folder)
      (letters_of archive') (CheckRefused moment w scanned.marks) before after) (sym starved)
      (tells_starved Has empty old.owner.items purges old.folder archive archive' folder.known
      scanned moment before after knows visits (letters_of archive'))

  next_by : (w : ScanError) → IsToldAs why w
      → AreNext old.folder.met (CheckRefused moment w scanned.marks)
  next_by scan.ArchiveFull (inl same_cause) =
      let full = visits.visits.full
      (subst (λ (r : Result Found ScanError). IsErrOf r scan.ArchiveFull)
      (sym (is ∙ ap Err (sym same_cause))) refl) in
      omega (arith, full, knows.met, length-map archive plain_letter)
  next_by scan.ArchiveFull (inr starved) = absurd (cc)
  next_by _ told = tt

  pub look_off : IsIndexShown (plain_core old.core)
      → Fits (letters_of archive) old
      → LooksAgain Has quiet moment old new archive archive' event before after
  look_off shown fits = look_refused Has quiet moment why scanned.marks old mid new event archive
      archive' before after folder same letters_same
      (subst (IsOpen (letters_of archive) after.told) (sym folder_same)
      (open_unvisited old.owner.items archive archive' old.folder folder.known scanned why before
      after knows visits is))
      (ap (λ (k : KnownFolder). k.path) known_kept) (ap (λ (k : KnownFolder). k.kind) known_kept)
      (ap (λ (f : OpenFolder). f.listing) folder_same) (ap (λ (f : OpenFolder). f.met) folder_same)
      (ap (λ (f : OpenFolder). f.refused) folder_same) refuses
      (ap (λ (f : OpenFolder). forgot_by refuses.told f.forgot) folder_same)
      (λ empty purges. tells_by empty purges refuses.told refuses.told_as)
      shown fits knows.met
      (λ w same_told. next_by w (subst (IsToldAs why) (sym same_told) refuses.told_as))

-- what is left of a folder is right, as the folder was
pub left_right : (mails letters : List Mail) (folder left : OpenFolder) (gone : KnownFolder)
    (told : Option Past) → left ≡ folder
    → ((t : Option Past) → Right left.known.kind mails left.known t
    → Right left.known.kind letters gone t)
    → Right folder.known.kind mails folder.known told → Right folder.known.kind letters gone told
left_right mails letters folder left gone told same keeps right =
    subst (λ (f : OpenFolder). Right f.known.kind letters gone told) same
    (keeps told (subst (λ (f : OpenFolder). Right f.known.kind mails f.known told) (sym same)
    right))

-- What a visit found was forgotten.
module _ (Has : Kind → Type 0) (quiet : Bool) (moment : ℤ) (old mid new : Session)
    (archive archive' archive'' : List Letter) (scanned : Scanned) (theirs : Found)
    (event : Happening) (before after : Seen)
    (knows : IsOpen (letters_of archive) before.told old.folder) (folder gone : OpenFolder)
    (visits : VisitsFolder old.owner.items archive archive' old.folder.known folder.known scanned
    before after)
    (folder_same : folder ≡ with_known folder.known old.folder)
    (is : scanned.answer ≡ Ok theirs)
    (letters_gone : archive'' ≡ take folder.met archive')
    (gone_is : gone ≡ record folder { known = shortened folder.met folder.known; forgot = true })
    (right : Right folder.known.kind (letters_of archive') folder.known after.told
    → Right folder.known.kind (letters_of archive'') gone.known after.told)
    (same : mid ≡ record old { folder = gone })
    (refuses : RefusesCheck quiet scan.NoMemory moment scanned.marks mid new event) where
  gone_listed : ListsFound theirs (letters_of archive) (letters_of archive')
      (record old.folder.known { held = folder.known.held }) folder.known
  gone_listed = visit_lists old.owner.items archive archive' old.folder.known folder.known scanned
      theirs before after visits is

  gone_news : FindsNews (letters_of archive) (letters_of archive') folder theirs
  gone_news = finds old.owner.items archive archive' old.folder folder folder.known scanned theirs
      before after knows visits is folder_same

  met_is : folder.met ≡ length (letters_of archive)
  met_is = gone_news.met

  letters_back : letters_of archive'' ≡ letters_of archive
  letters_back =
      ap (map plain_letter) letters_gone ∙ sym (take-map plain_letter folder.met archive')
      ∙ ap (λ (l : List Mail). take folder.met l) gone_listed.archived
      ∙ ap (λ (n : ℕ). take n (letters_of archive ++ gone_listed.added)) met_is
      ∙ take-append_seam (letters_of archive) gone_listed.added

  was_kind : folder.known.kind ≡ old.folder.known.kind
  was_kind = ap (λ (k : KnownFolder). k.kind) gone_listed.kept

  gone_kind : gone.known.kind ≡ folder.known.kind
  gone_kind = ap (λ (f : OpenFolder). f.known.kind) gone_is

  gone_open : IsOpen (letters_of archive) after.told gone
  gone_open =
      subst (λ (l : List Mail). IsOpen l after.told gone) letters_back (record {
        right = subst (λ (k : Kind). Right k (letters_of archive'') gone.known after.told)
            (sym gone_kind)
            (right (subst (λ (k : Kind). Right k (letters_of archive') folder.known after.told)
            (sym was_kind) visits.visits.right));
        known = subst (λ (f : OpenFolder). IsKnownOf f.forgot f.listing.items f.known.listing)
            (sym gone_is)
            (forgot_known (letters_of archive) (letters_of archive') folder theirs gone_news);
        within = subst (λ (f : OpenFolder). All (λ l. l.id.0 < length (letters_of archive''))
            f.listing.items) (sym gone_is)
            (subst (λ (l : List Mail). All (λ x. x.id.0 < length l) folder.listing.items)
            (sym letters_back) gone_news.within);
        once = ap (λ (f : OpenFolder). ids_differ f.listing.items) gone_is ∙ gone_news.once;
        met = ap (λ (f : OpenFolder). f.met) gone_is ∙ met_is ∙ sym (ap length letters_back);
      })

  told_is : refuses.told ≡ scan.NoMemory
  told_is = elim refuses.told_as [ inl h ↦ h | inr h ↦ h ]

  pub look_forgot : IsIndexShown (plain_core old.core)
      → Fits (letters_of archive) old
      → LooksAgain Has quiet moment old new archive archive'' event before after
  look_forgot shown fits = look_refused Has quiet moment scan.NoMemory scanned.marks old mid new
      event archive archive'' before after gone same letters_back gone_open
      (ap (λ (f : OpenFolder). f.known.path) gone_is
      ∙ ap (λ (k : KnownFolder). k.path) gone_listed.kept)
      (gone_kind ∙ was_kind)
      (ap (λ (f : OpenFolder). f.listing) gone_is ∙ ap (λ (f : OpenFolder). f.listing) folder_same)
      (ap (λ (f : OpenFolder). f.met) gone_is ∙ ap (λ (f : OpenFolder). f.met) folder_same)
      (ap (λ (f : OpenFolder). f.refused) gone_is ∙ ap (λ (f : OpenFolder). f.refused) folder_same)
      refuses
      (ap (λ (w : ScanError). forgot_by w gone.forgot) told_is
      ∙ sym (ap (λ (w : ScanError). forgot_by w old.folder.forgot) told_is))
      (λ empty purges. subst (λ (w : ScanError). Tells Has (standing_over empty old.owner.items
      purges old.folder) (letters_of archive'') (CheckRefused moment w scanned.marks) before after)
      (sym told_is)
      (tells_starved Has empty old.owner.items purges old.folder archive archive' folder.known
      scanned moment before after knows visits (letters_of archive'')))
      shown fits knows.met
      (λ w same_told. subst (λ (v : ScanError). AreNext old.folder.met
      (CheckRefused moment v scanned.marks)) (sym (same_told ∙ told_is)) tt)
