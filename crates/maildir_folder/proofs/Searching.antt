-- The search of a base among the known messages.
use Rattle.std.proofs.Common.{◌≡◌, ◌<◌, ◌++◌, ◌&&◌, ℕ, pos, Bool, true, false, List, [], ◌∷◌}
use Rattle.std.proofs.Common.{Some, None, length, if◌then◌else◌, refl, sym}
use Rattle.std.proofs.Common.{◌∙◌, ap, subst, arith, length-append}
use Rattle.std.specs.Prelude.{option_map}
use Rattle.std.specs.Cmp.Lexicographic.{slice_cmp}
use Rattle.std.specs.List.{find}
use Rattle.std.specs.Ordering.{is_lt, nat_cmp, ordering_reverse, ordering_then}
use Rattle.std.specs.Str.{bytes_eq}
use Rattle.std.specs.declared.cmp.Ordering.{Ordering}
use Rattle.std.specs.declared.cmp.Ordering.TheVariants.{Less, Equal, Greater}
use Rattle.std.proofs.lemmas.Bool.{and_parts}
use Rattle.std.proofs.lemmas.List.{map-append}
use Rattle.std.proofs.lemmas.List.Elements.{All-cons, All-head, All-nil, All-tail}
use Rattle.std.proofs.lemmas.Slice.Eq.{bytes_eq-Decides}
use Rattle.std.specs.Cmp.{IsTotalOrder}
use Rattle.std.proofs.lemmas.Cmp.{nat_cmp_total, nat_list_cmp_total, on_total, then_total}
use Rattle.mail_base.proofs.OrderedLemmas.{text_same, then_equal}
use Rattle.folder_core.specs.Keeping.{ListedMail, PlacedByKey, keyed, mail_of, mails_of, with_mail}
use Rattle.folder_core.specs.MaildirNames.{order_of}
use Rattle.folder_core.specs.Right.{mail_before, mails_rise}
use Rattle.folder_core.proofs.DifferenceLemmas.{AreBelow}
use Rattle.folder_core.proofs.RightLemmas.{NoneBefore, below_later, mail_cmp, mail_order}
use Rattle.folder_core.proofs.RightLemmas.{mails_later, none_before}
use Rattle.folder_letters.specs.Letters.{Mail}
use Rattle.folder_letters.specs.declared.listing.Listed.{Listed}
use Rattle.maildir_folder.specs.KnownBase.{CanSearch, base_cmp}

true_false : ◌≡◌ {A = Bool} true false → ⊥
true_false e = cc

-- a letter that stands where a base does
abbrev pub base_mail : List ℕ → Mail
base_mail base =
    record { order = order_of base; key = base; core = []; text_at = 0; received = pos 0 }

mail_total : IsTotalOrder mail_cmp
mail_total =
    then_total (on_total (λ (m : Mail). m.order) nat_cmp_total)
    (on_total (λ (m : Mail). m.key) nat_list_cmp_total)

-- A letter that has the base stands where the base does.

order_is : (m : Mail) (base : List ℕ) → m.order ≡ order_of m.key → m.key ≡ base
    → m.order ≡ order_of base
order_is m base placed key = placed ∙ ap order_of key

not_behind : (x m : Mail) (base : List ℕ) → m.order ≡ order_of m.key
    → mail_before x m ≡ false → mail_before x (base_mail base) ≡ true
    → bytes_eq m.key base ≡ false
not_behind x m base placed off before = by_test (bytes_eq m.key base) refl
  where
    by_test : (t : Bool) → bytes_eq m.key base ≡ t → t ≡ false
    by_test false is = refl
    by_test true is =
        let key : m.key ≡ base = (bytes_eq-Decides m.key base).0 is in
        let same : mail_before x m ≡ mail_before x (base_mail base) =
        λ i. is_lt (ordering_then (nat_cmp x.order (order_is m base placed key i))
        (slice_cmp nat_cmp x.key (key i))) in
        absurd (true_false (sym before ∙ sym same ∙ off))

not_before : (x m : Mail) (base : List ℕ) → m.order ≡ order_of m.key
    → mail_before m x ≡ false → mail_before (base_mail base) x ≡ true
    → bytes_eq m.key base ≡ false
not_before x m base placed off before = by_test (bytes_eq m.key base) refl
  where
    by_test : (t : Bool) → bytes_eq m.key base ≡ t → t ≡ false
    by_test false is = refl
    by_test true is =
        let key : m.key ≡ base = (bytes_eq-Decides m.key base).0 is in
        let same : mail_before m x ≡ mail_before (base_mail base) x =
        λ i. is_lt (ordering_then (nat_cmp (order_is m base placed key i) x.order)
        (slice_cmp nat_cmp (key i) x.key)) in
        absurd (true_false (sym before ∙ sym same ∙ off))

never_itself : (a : Mail) → mail_before a a ≡ false
never_itself a = by_test (mail_before a a) refl
  where
    by_test : (t : Bool) → mail_before a a ≡ t → mail_before a a ≡ false
    by_test true is = mail_order.one_way a a is
    by_test false is = is

-- Parts of letters that rise.

-- each of these stands before the letter
abbrev pub AllBefore : List ListedMail → Mail → Type 0
AllBefore [] mail = Unit {0}
AllBefore (listed ∷ old) mail = (mail_before listed.mail mail ≡ true) × AllBefore old mail

-- one before another that stands before a third
before_then : (a b c : Mail) → mail_before a b ≡ true → mail_before b c ≡ true
    → mail_before a c ≡ true
before_then a b c first next = by_test (mail_before a c) refl
  where
    by_test : (t : Bool) → mail_before a c ≡ t → mail_before a c ≡ true
    by_test true is = is
    by_test false is =
        absurd (true_false (sym first ∙ mail_order.chain a c b is (mail_order.one_way b c next)))

all_before : (front : List ListedMail) (m : ListedMail) (rest : List ListedMail)
    → mails_rise (front ++ m ∷ rest) ≡ true → AllBefore front m.mail
all_before [] m rest rise = tt
all_before (f ∷ []) m rest rise =
    ((and_parts (mail_before f.mail m.mail) (mails_rise (m ∷ rest)) rise).0, tt)
all_before (f ∷ g ∷ front) m rest rise =
    let parts = and_parts (mail_before f.mail g.mail) (mails_rise (g ∷ front ++ m ∷ rest)) rise in
    let again = all_before (g ∷ front) m rest parts.1 in
    (before_then f.mail g.mail m.mail parts.0 again.0, again)

rise_behind : (front : List ListedMail) (m : ListedMail) (rest : List ListedMail)
    → mails_rise (front ++ m ∷ rest) ≡ true → mails_rise (m ∷ rest) ≡ true
rise_behind [] m rest rise = rise
rise_behind (f ∷ []) m rest rise =
    (and_parts (mail_before f.mail m.mail) (mails_rise (m ∷ rest)) rise).1
rise_behind (f ∷ g ∷ front) m rest rise =
    rise_behind (g ∷ front) m rest
    (and_parts (mail_before f.mail g.mail) (mails_rise (g ∷ front ++ m ∷ rest)) rise).1

rise_front : (front : List ListedMail) (m : ListedMail) (rest : List ListedMail)
    → mails_rise (front ++ m ∷ rest) ≡ true → mails_rise front ≡ true
rise_front [] m rest rise = refl
rise_front (f ∷ []) m rest rise = refl
rise_front (f ∷ g ∷ front) m rest rise =
    let parts = and_parts (mail_before f.mail g.mail) (mails_rise (g ∷ front ++ m ∷ rest)) rise in
    ap (λ (t : Bool). t && mails_rise (g ∷ front)) parts.0
    ∙ rise_front (g ∷ front) m rest parts.1

rise_tail : (m : ListedMail) (rest : List ListedMail) → mails_rise (m ∷ rest) ≡ true
    → mails_rise rest ≡ true
rise_tail m [] rise = refl
rise_tail m (r ∷ rest) rise =
    (and_parts (mail_before m.mail r.mail) (mails_rise (r ∷ rest)) rise).1

placed_front : (front rest : List ListedMail) → PlacedByKey order_of (front ++ rest)
    → PlacedByKey order_of front
placed_front [] rest placed = tt
placed_front (f ∷ front) rest placed = (placed.0, placed_front front rest placed.1)

placed_behind : (front rest : List ListedMail) → PlacedByKey order_of (front ++ rest)
    → PlacedByKey order_of rest
placed_behind [] rest placed = placed
placed_behind (f ∷ front) rest placed = placed_behind front rest placed.1

below_front : (letters : ℕ) (front rest : List Listed) → AreBelow letters (front ++ rest)
    → AreBelow letters front
below_front letters [] rest below = All-nil (λ l. l.id.0 < letters)
below_front letters (f ∷ front) rest below =
    All-cons (λ l. l.id.0 < letters) f front
    (All-head (λ l. l.id.0 < letters) f (front ++ rest) below)
    (below_front letters front rest (All-tail (λ l. l.id.0 < letters) f (front ++ rest) below))

below_behind : (letters : ℕ) (front rest : List Listed) → AreBelow letters (front ++ rest)
    → AreBelow letters rest
below_behind letters [] rest below = below
below_behind letters (f ∷ front) rest below =
    below_behind letters front rest (All-tail (λ l. l.id.0 < letters) f (front ++ rest) below)

-- Letters without the base.

-- none of these has the base
abbrev pub NoKey : List ℕ → List ListedMail → Type 0
NoKey base [] = Unit {0}
NoKey base (listed ∷ old) = (bytes_eq listed.mail.key base ≡ false) × NoKey base old

keyed_behind : (base : List ℕ) (front rest : List ListedMail) → NoKey base front
    → keyed (front ++ rest) base ≡ keyed rest base
keyed_behind base [] rest none = refl
keyed_behind base (f ∷ front) rest none =
    ap (λ (t : Bool). option_map (λ l. l.id) (if t then Some f
    else find (λ l. bytes_eq l.mail.key base) (front ++ rest))) none.0
    ∙ keyed_behind base front rest none.1

keyed_none : (base : List ℕ) (rest : List ListedMail) → NoKey base rest
    → keyed rest base ≡ None
keyed_none base [] none = refl
keyed_none base (r ∷ rest) none =
    ap (λ (t : Bool). option_map (λ l. l.id) (if t then Some r
    else find (λ l. bytes_eq l.mail.key base) rest)) none.0
    ∙ keyed_none base rest none.1

keyed_front : (base : List ℕ) (front rest : List ListedMail) → NoKey base rest
    → keyed (front ++ rest) base ≡ keyed front base
keyed_front base [] rest none = keyed_none base rest none
keyed_front base (f ∷ front) rest none =
    by_test (bytes_eq f.mail.key base) (keyed_front base front rest none)
  where
    by_test : (t : Bool) → keyed (front ++ rest) base ≡ keyed front base
        → option_map (λ l. l.id) (if t then Some f
        else find (λ l. bytes_eq l.mail.key base) (front ++ rest))
        ≡ option_map (λ l. l.id) (if t then Some f
        else find (λ l. bytes_eq l.mail.key base) front)
    by_test true again = refl
    by_test false again = again

keyed_first : (base : List ℕ) (m : ListedMail) (rest : List ListedMail) → m.mail.key ≡ base
    → keyed (m ∷ rest) base ≡ Some m.id
keyed_first base m rest key =
    ap (λ (t : Bool). option_map (λ l. l.id) (if t then Some m
    else find (λ l. bytes_eq l.mail.key base) rest)) ((bytes_eq-Decides m.mail.key base).1 key)

-- those in front of a letter that stands before the base
front_none : (base : List ℕ) (front : List ListedMail) (m : Mail) → PlacedByKey order_of front
    → AllBefore front m → mail_before m (base_mail base) ≡ true → NoKey base front
front_none base [] m placed before less = tt
front_none base (f ∷ front) m placed before less = (
  not_behind m f.mail base placed.0 (mail_order.one_way f.mail m before.0) less,
  front_none base front m placed.1 before.1 less,
)

-- those behind a letter that stands behind the base
rest_none : (base : List ℕ) (rest : List ListedMail) (m : Mail) → PlacedByKey order_of rest
    → NoneBefore m rest → mail_before (base_mail base) m ≡ true → NoKey base rest
rest_none base [] m placed none greater = tt
rest_none base (r ∷ rest) m placed none greater = (
  not_before m r.mail base placed.0 none.0 greater,
  rest_none base rest m placed.1 none.1 greater,
)

-- a letter before another one has not its base
other_base : (f m : Mail) (base : List ℕ) → f.order ≡ order_of f.key → m.order ≡ order_of m.key
    → m.key ≡ base → mail_before f m ≡ true → bytes_eq f.key base ≡ false
other_base f m base placed at key before = by_test (bytes_eq f.key base) refl
  where
    by_test : (t : Bool) → bytes_eq f.key base ≡ t → t ≡ false
    by_test false is = refl
    by_test true is =
        let one : f.key ≡ m.key = (bytes_eq-Decides f.key base).0 is ∙ sym key in
        let place : f.order ≡ m.order = placed ∙ ap order_of one ∙ sym at in
        let same : mail_before f m ≡ mail_before m m =
        λ i. is_lt (ordering_then (nat_cmp (place i) m.order) (slice_cmp nat_cmp (one i) m.key)) in
        absurd (true_false (sym before ∙ same ∙ never_itself m))

-- those in front of a letter that has the base
front_other : (base : List ℕ) (front : List ListedMail) (m : Mail) → PlacedByKey order_of front
    → m.order ≡ order_of m.key → m.key ≡ base → AllBefore front m → NoKey base front
front_other base [] m placed at key before = tt
front_other base (f ∷ front) m placed at key before = (
  other_base f.mail m base placed.0 at key before.0,
  front_other base front m placed.1 at key before.1,
)

-- Steps of the search.

-- a part of what is searched, in which the base is found as in the whole
pub record Narrows (mails : List Mail) (whole part : List Listed) (base : List ℕ) : Type 0 where
  pub search : CanSearch mails part
  pub same : keyed (mails_of mails part) base ≡ keyed (mails_of mails whole) base

pub narrows_same : (mails : List Mail) (listing : List Listed) (base : List ℕ)
    → CanSearch mails listing → Narrows mails listing listing base
narrows_same mails listing base search = record { search = search; same = refl }

-- a part of a part
narrows_then : (mails : List Mail) (whole left part : List Listed) (base : List ℕ)
    → Narrows mails whole left base → Narrows mails left part base
    → Narrows mails whole part base
narrows_then mails whole left part base first next =
    record { search = next.search; same = next.same ∙ first.same }

split_mails : (mails : List Mail) (front : List Listed) (listed : Listed) (rest : List Listed)
    → mails_of mails (front ++ listed ∷ rest)
    ≡ mails_of mails front ++ with_mail mails listed ∷ mails_of mails rest
split_mails mails front listed rest = map-append (with_mail mails) front (listed ∷ rest)

-- what is known of the parts
record Parts (mails : List Mail) (front : List Listed) (listed : Listed) (rest : List Listed)
    : Type 0 where
  rise : mails_rise (mails_of mails front ++ with_mail mails listed ∷ mails_of mails rest) ≡ true
  placed : PlacedByKey order_of
      (mails_of mails front ++ with_mail mails listed ∷ mails_of mails rest)

parts_of : (mails : List Mail) (front : List Listed) (listed : Listed) (rest : List Listed)
    → CanSearch mails (front ++ listed ∷ rest) → Parts mails front listed rest
parts_of mails front listed rest search = record {
  rise = sym (ap mails_rise (split_mails mails front listed rest)) ∙ search.ordered;
  placed = subst (PlacedByKey order_of) (split_mails mails front listed rest) search.placed;
}

narrows_rest : (mails : List Mail) (front : List Listed) (listed : Listed) (rest : List Listed)
    (base : List ℕ) → CanSearch mails (front ++ listed ∷ rest)
    → mail_before (mail_of mails listed.id.0) (base_mail base) ≡ true
    → Narrows mails (front ++ listed ∷ rest) rest base
narrows_rest mails front listed rest base search less =
    let parts = parts_of mails front listed rest search in
    let m = with_mail mails listed in
    let behind = placed_behind (mails_of mails front) (m ∷ mails_of mails rest) parts.placed in
    let tail = rise_behind (mails_of mails front) m (mails_of mails rest) parts.rise in
    record {
      search = record {
        within = All-tail (λ l. l.id.0 < length mails) listed rest
            (below_behind (length mails) front (listed ∷ rest) search.within);
        ordered = rise_tail m (mails_of mails rest) tail;
        placed = behind.1;
      };
      same = sym (ap (λ (l : List ListedMail). keyed l base)
          (split_mails mails front listed rest)
          ∙ keyed_behind base (mails_of mails front) (m ∷ mails_of mails rest)
          (front_none base (mails_of mails front) m.mail
          (placed_front (mails_of mails front) (m ∷ mails_of mails rest) parts.placed)
          (all_before (mails_of mails front) m (mails_of mails rest) parts.rise) less)
          ∙ keyed_behind base (m ∷ []) (mails_of mails rest)
          (not_behind m.mail m.mail base behind.0 (never_itself m.mail) less, tt));
    }

narrows_front : (mails : List Mail) (front : List Listed) (listed : Listed) (rest : List Listed)
    (base : List ℕ) → CanSearch mails (front ++ listed ∷ rest)
    → mail_before (base_mail base) (mail_of mails listed.id.0) ≡ true
    → Narrows mails (front ++ listed ∷ rest) front base
narrows_front mails front listed rest base search greater =
    let parts = parts_of mails front listed rest search in
    let m = with_mail mails listed in
    let behind = placed_behind (mails_of mails front) (m ∷ mails_of mails rest) parts.placed in
    let tail = rise_behind (mails_of mails front) m (mails_of mails rest) parts.rise in
    record {
      search = record {
        within = below_front (length mails) front (listed ∷ rest) search.within;
        ordered = rise_front (mails_of mails front) m (mails_of mails rest) parts.rise;
        placed = placed_front (mails_of mails front) (m ∷ mails_of mails rest) parts.placed;
      };
      same = sym (ap (λ (l : List ListedMail). keyed l base)
          (split_mails mails front listed rest)
          ∙ keyed_front base (mails_of mails front) (m ∷ mails_of mails rest) (
            not_before m.mail m.mail base behind.0 (never_itself m.mail) greater,
            rest_none base (mails_of mails rest) m.mail behind.1
                (none_before m (mails_of mails rest) tail) greater,
          ));
    }

found_keyed : (mails : List Mail) (front : List Listed) (listed : Listed) (rest : List Listed)
    (base : List ℕ) → CanSearch mails (front ++ listed ∷ rest)
    → (mail_of mails listed.id.0).key ≡ base
    → keyed (mails_of mails (front ++ listed ∷ rest)) base ≡ Some listed.id.0
found_keyed mails front listed rest base search key =
    let parts = parts_of mails front listed rest search in
    let m = with_mail mails listed in
    let behind = placed_behind (mails_of mails front) (m ∷ mails_of mails rest) parts.placed in
    ap (λ (l : List ListedMail). keyed l base) (split_mails mails front listed rest)
    ∙ keyed_behind base (mails_of mails front) (m ∷ mails_of mails rest)
    (front_other base (mails_of mails front) m.mail
    (placed_front (mails_of mails front) (m ∷ mails_of mails rest) parts.placed)
    behind.0 key (all_before (mails_of mails front) m (mails_of mails rest) parts.rise))
    ∙ keyed_first base m (mails_of mails rest) key

-- The same by what the code compares.

-- the place of the middle, by its base
place_of : (mails : List Mail) (listed : Listed) (order : ℕ) (base : List ℕ) (is : Ordering)
    → order ≡ order_of base → is ≡ base_cmp (mail_of mails listed.id.0) order base
    → mail_cmp (mail_of mails listed.id.0) (base_mail base) ≡ is
place_of mails listed order base is at told =
    ap (λ (n : ℕ). base_cmp (mail_of mails listed.id.0) n base) (sym at) ∙ sym told

pub step_less : (mails : List Mail) (whole left front : List Listed) (listed : Listed)
    (rest : List Listed) (order : ℕ) (base : List ℕ) (is : Ordering)
    → left ≡ front ++ listed ∷ rest → order ≡ order_of base
    → is ≡ base_cmp (mail_of mails listed.id.0) order base → is ≡ Less
    → Narrows mails whole left base → Narrows mails whole rest base
step_less mails whole left front listed rest order base is split at told less narrows =
    let place = place_of mails listed order base is at told ∙ less in
    let here : Narrows mails whole (front ++ listed ∷ rest) base =
    subst (λ (l : List Listed). Narrows mails whole l base) split narrows in
    narrows_then mails whole (front ++ listed ∷ rest) rest base here
    (narrows_rest mails front listed rest base here.search (ap is_lt place))

pub step_greater : (mails : List Mail) (whole left front : List Listed) (listed : Listed)
    (rest : List Listed) (order : ℕ) (base : List ℕ) (is : Ordering)
    → left ≡ front ++ listed ∷ rest → order ≡ order_of base
    → is ≡ base_cmp (mail_of mails listed.id.0) order base → is ≡ Greater
    → Narrows mails whole left base → Narrows mails whole front base
step_greater mails whole left front listed rest order base is split at told greater narrows =
    let place = place_of mails listed order base is at told ∙ greater in
    let back : mail_cmp (base_mail base) (mail_of mails listed.id.0) ≡ Less =
    mail_total.antisymm (base_mail base) (mail_of mails listed.id.0)
    ∙ ap ordering_reverse place in
    let here : Narrows mails whole (front ++ listed ∷ rest) base =
    subst (λ (l : List Listed). Narrows mails whole l base) split narrows in
    narrows_then mails whole (front ++ listed ∷ rest) front base here
    (narrows_front mails front listed rest base here.search (ap is_lt back))

pub step_equal : (mails : List Mail) (whole left front : List Listed) (listed : Listed)
    (rest : List Listed) (order : ℕ) (base : List ℕ) (is : Ordering)
    → left ≡ front ++ listed ∷ rest → order ≡ order_of base
    → is ≡ base_cmp (mail_of mails listed.id.0) order base → is ≡ Equal
    → Narrows mails whole left base → Some listed.id.0 ≡ keyed (mails_of mails whole) base
step_equal mails whole left front listed rest order base is split at told equal narrows =
    let place = place_of mails listed order base is at told ∙ equal in
    let key = text_same (mail_of mails listed.id.0).key base (then_equal _ _ place).1 in
    let here : Narrows mails whole (front ++ listed ∷ rest) base =
    subst (λ (l : List Listed). Narrows mails whole l base) split narrows in
    sym (found_keyed mails front listed rest base here.search key) ∙ here.same

pub none_left : (mails : List Mail) (whole left : List Listed) (base : List ℕ)
    → length left ≡ 0 → Narrows mails whole left base
    → None ≡ keyed (mails_of mails whole) base
none_left mails whole [] base none narrows = narrows.same
none_left mails whole (l ∷ left) base none narrows = absurd (omega (arith, none))

-- more letters change nothing of the search
pub search_later : (mails more : List Mail) (listing : List Listed) → CanSearch mails listing
    → CanSearch (mails ++ more) listing
search_later mails more listing search =
    let same = mails_later mails more listing search.within in
    record {
      within = below_later (length mails) (length (mails ++ more)) listing
          (omega (arith, length-append mails more)) search.within;
      ordered = ap mails_rise same ∙ search.ordered;
      placed = subst (PlacedByKey order_of) (sym same) search.placed;
    }
