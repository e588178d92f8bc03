-- How a reader continues.
use Rattle.std.proofs.Common.{◌≡◌, ◌≢◌, ℕ, ◌+◌, ◌≤◌, List, [], ◌∷◌, ◌++◌, length, take, drop, Option, Some, None, Result, Ok, Err, refl, sym, ap, ◌∙◌, append_assoc, subst, arith, inl, inr}
use Rattle.std.specs.List.{AllByRecursion, AllZip}
use Rattle.std.proofs.lemmas.List.{append-nil, length-append, take-append-drop}
use Rattle.std.proofs.Math.Seq.{take-length}
use Rattle.csa_cutting.specs.Cut.{TextUnit, IsCut, statement_bytes}
use Rattle.csa_cutting.specs.ClosedStatements.{is_closed}
use Rattle.csa_cutting.specs.PieceCutting.{PieceCutting, ToComeWith, Leads, fresh}
use Rattle.csa_cutting.specs.PieceSteps.{Stepped, Finished, IsNumbered}
use Rattle.csa_cutting.specs.TooLong.{AreShort}
use Rattle.shogi_board.specs.declared.color.Color.{Color}
use Rattle.shogi_board.specs.declared.setup.SetupFault.{SetupFault}
use Rattle.shogi_board.specs.Layout.{Layout}
use Rattle.shogi_rules.specs.declared.line.PlayFault.{PlayFault}
use Rattle.shogi_rules.specs.declared.line.PlayFault.TheVariants as faults
use Rattle.csa_text.specs.Saying.{Saying, version, name, header, even, rank, pieces, turn, walked, time, ending}
use Rattle.csa_text.specs.Spelling.{Spells, fault_of_row}
use Rattle.csa_cutting.specs.declared.cutter.CutFault.{CutFault}
use Rattle.csa_cutting.specs.declared.cutter.Statement.{Statement}
use Rattle.csa_text.specs.declared.fault.TextFault.TheVariants.{StatementTooLong}
use Rattle.csa_cutting.proofs.FirstLong.{too_long_whole, nothing_fed}
use Rattle.csa_cutting.proofs.Joining.{pieces_joined, pieces_whole}
use Rattle.csa_cutting.proofs.Once.{statements_once}
use Rattle.csa_cutting.proofs.Runs.{found}
use Rattle.record_game.specs.declared.fault.OrderFault.{OrderFault}
use Rattle.record_game.specs.declared.fault.Refusal.{Refusal}
use Rattle.record_game.specs.declared.fault.Why.{Why}
use Rattle.record_game.specs.declared.fault.Why.TheVariants.{Text, OutOfMemory}
use Rattle.record_game.specs.Fits.{IsOfStatement}
use Rattle.record_game.specs.Keeping.{Kept, HasKept}
use Rattle.record_game.specs.Outcome.{Outcome, IsWritten}
use Rattle.record_game.specs.Order.{order_fault}
use Rattle.record_game.specs.LaidOut.{laid_out}
use Rattle.csa_record.specs.declared.record_reader.Failing.{Failing}
use Rattle.csa_record.specs.RecordReading.{HasRead, HasTaken}
use Rattle.csa_record.specs.ReadingSteps.{HasAll, IsRefusedBy}
use Rattle.record_game.specs.Refused.{start_why, Finishes, IsJudged, AnswersItem, AnswersAfter, AnswersInOrder, Fault, Faultless, Refused}
use Rattle.record_game.specs.Tells.{IsSpelt}
use Rattle.record_game.proofs.Units.{IsSomeUnit, kept_units, statements_are}

-- what is to come exists
to_come : (p : PieceCutting) (text : List ℕ) → (others : List TextUnit) × ToComeWith p text others
to_come p text = found _ _

-- one more without a fault
faultless_more : (before : List Saying) (us : List TextUnit) (ss : List Saying) (u : TextUnit) (s : Saying) → Faultless before us ss → IsSpelt u s → AnswersItem (before ++ ss) s None → Faultless before (us ++ u ∷ []) (ss ++ s ∷ [])
faultless_more before [] [] u s h spelt fine = (spelt, subst (λ b. AnswersItem b s None) (append-nil before) fine, tt)
faultless_more before [] (t ∷ ts) u s h spelt fine = absurd h
faultless_more before (v ∷ vs) [] u s h spelt fine = absurd h
faultless_more before (v ∷ vs) (t ∷ ts) u s h spelt fine =
    (h.0, h.1, faultless_more (before ++ t ∷ []) vs ts u s h.2 spelt (subst (λ b. AnswersItem b s None) (sym (append_assoc before (t ∷ []) ts)) fine))

short_more : (us : List TextUnit) (u : TextUnit) → AreShort us → length u.bytes ≤ 4096 → AreShort (us ++ u ∷ [])
short_more [] u h k = (k, tt)
short_more (v ∷ vs) u h k = (h.0, short_more vs u h.1 k)

-- the cut of all bytes, whatever follows
record Onward (source piece : List ℕ) (used : ℕ) (handed : List TextUnit) (unit : TextUnit) (q : PieceCutting) : Type 0 where
  leads : Leads fresh (source ++ take used piece) (handed ++ unit ∷ []) q
  cut : (more : List ℕ) → (others : List TextUnit) × IsCut ((source ++ piece) ++ more) (handed ++ unit ∷ others)

taken_rest : (used : ℕ) (piece more : List ℕ) → take used piece ++ (drop used piece ++ more) ≡ piece ++ more
taken_rest used piece more = sym (append_assoc (take used piece) (drop used piece) more) ∙ ap (λ xs. xs ++ more) (take-append-drop used piece)

onward : (source piece : List ℕ) (used : ℕ) (handed : List TextUnit) (unit : TextUnit) (p q : PieceCutting) → Leads fresh source handed p → Leads p (take used piece) (unit ∷ []) q → Onward source piece used handed unit q
onward source piece used handed unit p q a b =
    let all = pieces_joined fresh p q source (take used piece) handed (unit ∷ []) a b in
    record {
      leads = all;
      cut = λ more.
          let rest = to_come q (drop used piece ++ more) in
          let whole : IsCut ((source ++ take used piece) ++ (drop used piece ++ more)) ((handed ++ unit ∷ []) ++ rest.0) = pieces_whole (source ++ take used piece) (drop used piece ++ more) (handed ++ unit ∷ []) rest.0 q all rest.1 in
          let bytes : (source ++ take used piece) ++ (drop used piece ++ more) ≡ (source ++ piece) ++ more = append_assoc source (take used piece) (drop used piece ++ more) ∙ (ap (λ xs. source ++ xs) (taken_rest used piece more) ∙ sym (append_assoc source piece more)) in
          (rest.0, subst (λ bs. IsCut bs (handed ++ unit ∷ rest.0)) bytes (subst (IsCut ((source ++ take used piece) ++ (drop used piece ++ more))) (append_assoc handed (unit ∷ []) rest.0) whole));
    }

of_unit : (count : ℕ) (u : TextUnit) (s : Statement) → IsSomeUnit u → IsNumbered count u s → IsOfStatement s.bytes.now
of_unit count u s unit n = record { unit = u.bytes; following = unit.0; is_unit = unit.1; short = n.short; whole = n.slice }

-- what a step and the end yield is the bytes of a statement
pub statement_given : (p q : PieceCutting) (text : List ℕ) (u : TextUnit) (s : Statement) → IsNumbered p.number u s → Leads p text (u ∷ []) q → IsOfStatement s.bytes.now
statement_given p q text u s n leads =
    let closed = leads.closes in
    let units : AllByRecursion IsSomeUnit (u ∷ []) = subst (AllByRecursion IsSomeUnit) (sym closed.2) (kept_units (is_closed (p.fed + length text)) closed.0 (statements_are _ _ closed.0 closed.1)) in
    of_unit p.number u s units.0 n

pub last_given : (p q : PieceCutting) (s : Statement) → Finished p (Ok (Some s)) q → IsOfStatement s.bytes.now
last_given p q s f =
    let units : AllByRecursion IsSomeUnit (f.last.0 ∷ []) = statements_are _ _ (f.last.0 ∷ []) f.last.2 in
    of_unit p.number f.last.0 s units.0 f.last.1

-- lack of memory is not a fault of an item
judged_never : (played : Option PlayFault) → IsJudged played (Some OutOfMemory) → ⊥
judged_never None h = cc
judged_never (Some (faults.Broken rule)) h = cc
judged_never (Some faults.TooManyMoves) h = h
judged_never (Some faults.OutOfMemory) h = h

start_never : (laid : Result Layout SetupFault) → Some OutOfMemory ≡ start_why laid → ⊥
start_never (Ok s) h = cc
start_never (Err fault) h = cc

finish_never : (laid : Result Layout SetupFault) (color : Color) → Finishes laid color (Some OutOfMemory) → ⊥
finish_never (Ok s) color h = let e = h.1 in cc
finish_never (Err fault) color h = h

in_order_never : (before : List Saying) (s : Saying) → AnswersInOrder before s (Some OutOfMemory) → ⊥
in_order_never before version h = cc
in_order_never before (name c t) h = cc
in_order_never before (header k t) h = cc
in_order_never before (even ps) h = start_never (laid_out (before ++ even ps ∷ [])) h
in_order_never before (rank n cs) h = start_never (laid_out (before ++ rank n cs ∷ [])) h
in_order_never before (pieces c ps) h = start_never (laid_out (before ++ pieces c ps ∷ [])) h
in_order_never before (turn c) h = finish_never (laid_out before) c h
in_order_never before (walked c m) (line, is, played, answers, judged) = judged_never played judged
in_order_never before (time t) h = cc
in_order_never before (ending e) h = cc

after_never : (fault : Option OrderFault) (before : List Saying) (s : Saying) → AnswersAfter fault before s (Some OutOfMemory) → ⊥
after_never None before s h = in_order_never before s h
after_never (Some fault) before s h = cc

never_memory : (before : List Saying) (s : Saying) (why : Why) → AnswersItem before s (Some why) → why ≢ OutOfMemory
never_memory before s why h e = after_never (order_fault before s) before s (subst (λ w. AnswersItem before s (Some w)) e h)

-- a statement after those without a fault
record IsNext (source : List ℕ) (handed : List TextUnit) (unit : TextUnit) (sayings : List Saying) (number : ℕ) : Type 0 where
  faultless : Faultless [] handed sayings
  short : length unit.bytes ≤ 4096
  number_is : number ≡ length handed + 1
  following : List TextUnit
  cut : IsCut source (handed ++ unit ∷ following)

refused_at : (source : List ℕ) (handed : List TextUnit) (unit : TextUnit) (sayings : List Saying) (r : Refusal) → IsNext source handed unit sayings r.number → r.offset ≡ unit.offset → Fault sayings unit r.why → Refused source r.number r.offset r.why
refused_at source handed unit sayings r n place fault =
    inl (record { front = handed; unit = unit; following = n.following; sayings = sayings; cut = n.cut; faultless = n.faultless; fault = fault; number_is = n.number_is; place = place })

refused_next : (source : List ℕ) (handed : List TextUnit) (unit : TextUnit) (sayings : List Saying) (new : Kept) (r : Refusal) → IsNext source handed unit sayings r.number → r.offset ≡ unit.offset → Outcome sayings (statement_bytes unit.bytes) (Err r.why) new → IsRefusedBy source r
refused_next source handed unit sayings new r n place (inl (is, (s, (spells, fine)))) =
    inr (
      is,
      record {
        front = handed;
        unit = unit;
        following = n.following;
        sayings = sayings ++ s ∷ [];
        cut = n.cut;
        faultless = faultless_more [] handed sayings unit s n.faultless (n.short, spells) fine;
        number_is = n.number_is;
        place = place;
      },
    )
refused_next source handed unit sayings new r n place (inr (inl (none, is))) =
    inl (
      (λ e. let other : Text (fault_of_row (statement_bytes unit.bytes)) ≡ OutOfMemory = sym is ∙ e in cc),
      refused_at source handed unit sayings r n place (inr (inl (n.short, none, is))),
    )
refused_next source handed unit sayings new r n place (inr (inr (s, spells, answers))) =
    inl (never_memory sayings s r.why answers, refused_at source handed unit sayings r n place (inr (inr (s, (n.short, spells), answers))))

-- how many statements the cutter has yielded
count_of : (source : List ℕ) (handed : List TextUnit) (p : PieceCutting) → Leads fresh source handed p → p.number ≡ length handed
count_of source handed p h = h.counted ∙ omega arith

-- the cutter's next statement
next_of : (source piece more : List ℕ) (used : ℕ) (p q : PieceCutting) (k : Kept) (unit : TextUnit) (s : Statement) (h : HasTaken source p k) → IsNumbered p.number unit s → Leads p (take used piece) (unit ∷ []) q → IsNext ((source ++ piece) ++ more) h.closed unit h.sayings s.number
next_of source piece more used p q k unit s h n leads =
    let on = onward source piece used h.closed unit p q h.cut.0 leads in
    let cut = on.cut more in
    record {
      faultless = h.faultless;
      short = n.short;
      number_is = n.number_is ∙ ap (λ c. c + 1) (count_of source h.closed p h.cut.0);
      following = cut.0;
      cut = cut.1;
    }

pub statement_taken : (source piece : List ℕ) (used : ℕ) (p q : PieceCutting) (k new : Kept) (unit : TextUnit) (s : Statement) (h : HasTaken source p k) → IsNumbered p.number unit s → Leads p (take used piece) (unit ∷ []) q
    → Outcome h.sayings s.bytes.now (Ok tt) new → HasTaken (source ++ take used piece) q new
statement_taken source piece used p q k new unit s h n leads (saying, (spells, fine), keeps) =
    let spelt : Spells (statement_bytes unit.bytes) saying = subst (λ bs. Spells bs saying) n.slice spells in
    record {
      closed = h.closed ++ unit ∷ [];
      sayings = h.sayings ++ saying ∷ [];
      cut = ((onward source piece used h.closed unit p q h.cut.0 leads).leads, short_more h.closed unit h.cut.1 n.short);
      faultless = faultless_more [] h.closed h.sayings unit saying h.faultless (n.short, spelt) fine;
      keeps = keeps;
    }

pub statement_refused : (source piece more : List ℕ) (used : ℕ) (p q : PieceCutting) (k new : Kept) (unit : TextUnit) (s : Statement) (r : Refusal) (h : HasTaken source p k) → IsNumbered p.number unit s → Leads p (take used piece) (unit ∷ []) q
    → r.number ≡ s.number → r.offset ≡ s.offset → Outcome h.sayings s.bytes.now (Err r.why) new → IsRefusedBy ((source ++ piece) ++ more) r
statement_refused source piece more used p q k new unit s r h n leads number_is place outcome =
    refused_next ((source ++ piece) ++ more) h.closed unit h.sayings new r
    (subst (IsNext ((source ++ piece) ++ more) h.closed unit h.sayings) (sym number_is) (next_of source piece more used p q k unit s h n leads)) (place ∙ n.place)
    (subst (λ bs. Outcome h.sayings bs (Err r.why) new) n.slice outcome)

-- no statement ends in the piece
pub nothing_given : (source piece : List ℕ) (used : ℕ) (p q : PieceCutting) (k : Kept) → HasTaken source p k → used ≡ length piece → Leads p piece [] q → HasTaken (source ++ take used piece) q k
nothing_given source piece used p q k h whole leads =
    let all : take used piece ≡ piece = ap (λ n. take n piece) whole ∙ take-length piece in
    let on : Leads fresh (source ++ piece) (h.closed ++ []) q = pieces_joined fresh p q source piece h.closed [] h.cut.0 leads in
    record {
      closed = h.closed;
      sayings = h.sayings;
      cut = (subst (λ xs. Leads fresh (source ++ xs) h.closed q) (sym all) (subst (λ us. Leads fresh (source ++ piece) us q) (append-nil h.closed) on), h.cut.1);
      faultless = h.faultless;
      keeps = h.keeps;
    }

-- a statement that is too long
same_front : (xs ys us vs : List TextUnit) → xs ++ us ≡ ys ++ vs → length xs ≡ length ys → xs ≡ ys
same_front [] [] us vs e n = refl
same_front [] (y ∷ ys) us vs e n = cc
same_front (x ∷ xs) [] us vs e n = cc
same_front (x ∷ xs) (y ∷ ys) us vs e n =
    let first : x ≡ y = cc in
    let rest : xs ++ us ≡ ys ++ vs = cc in
    let fewer : length xs ≡ length ys = omega (arith, n) in
    ap (λ z. z ∷ xs) first ∙ ap (λ zs. y ∷ zs) (same_front xs ys us vs rest fewer)

pub long_refused : (source piece more : List ℕ) (p q : PieceCutting) (k : Kept) (fault : CutFault) (r : Refusal) → HasTaken source p k → Stepped p piece (Err fault) q → r ≡ record { number = fault.number; offset = fault.offset; why = Text StatementTooLong } → IsRefusedBy ((source ++ piece) ++ more) r
long_refused source piece more p q k fault r h stepped is =
    let f = too_long_whole source piece more h.closed p q fault h.cut stepped in
    let rest = to_come p (piece ++ more) in
    let cut : IsCut ((source ++ piece) ++ more) (h.closed ++ rest.0) = subst (λ bs. IsCut bs (h.closed ++ rest.0)) (sym (append_assoc source piece more)) (pieces_whole source (piece ++ more) h.closed rest.0 p h.cut.0 rest.1) in
    let same : f.before ++ (f.unit ∷ f.others) ≡ h.closed ++ rest.0 = statements_once _ _ _ _ f.cut cut in
    let count : length f.before ≡ length h.closed = omega (arith, f.number_is, stepped.number_is, count_of source h.closed p h.cut.0) in
    let front = same_front f.before h.closed (f.unit ∷ f.others) rest.0 same count in
    subst (IsRefusedBy ((source ++ piece) ++ more)) (sym is)
    (inl (
      (λ e. cc),
      inl (record {
        front = f.before;
        unit = f.unit;
        following = f.others;
        sayings = h.sayings;
        cut = f.cut;
        faultless = subst (λ us. Faultless [] us h.sayings) (sym front) h.faultless;
        fault = inl (f.long, refl);
        number_is = f.number_is;
        place = f.place;
      }),
    ))

-- the end
ends : (source : List ℕ) (handed last : List TextUnit) (p : PieceCutting) → Leads fresh source handed p → ToComeWith p [] last → IsCut source (handed ++ last)
ends source handed last p leads to = subst (λ bs. IsCut bs (handed ++ last)) (append-nil source) (pieces_whole source [] handed last p leads to)

pub nothing_last : (source : List ℕ) (p q : PieceCutting) (k : Kept) → HasTaken source p k → Finished p (Ok None) q → HasAll source q k
nothing_last source p q k h f = record {
  statements = h.closed;
  sayings = h.sayings;
  cut = subst (IsCut source) (append-nil h.closed) (ends source h.closed [] p h.cut.0 f.last);
  faultless = h.faultless;
  keeps = h.keeps;
  counted = ap (λ (v : PieceCutting). v.number) f.after ∙ count_of source h.closed p h.cut.0;
}

last_next : (source : List ℕ) (p : PieceCutting) (k : Kept) (unit : TextUnit) (s : Statement) (h : HasTaken source p k) → IsNumbered p.number unit s → ToComeWith p [] (unit ∷ []) → IsNext source h.closed unit h.sayings s.number
last_next source p k unit s h n to = record {
  faultless = h.faultless;
  short = n.short;
  number_is = n.number_is ∙ ap (λ c. c + 1) (count_of source h.closed p h.cut.0);
  following = [];
  cut = ends source h.closed (unit ∷ []) p h.cut.0 to;
}

more_by_one : (us : List TextUnit) (u : TextUnit) → length (us ++ u ∷ []) ≡ length us + 1
more_by_one us u = length-append us (u ∷ []) ∙ omega arith

pub last_taken : (source : List ℕ) (p q : PieceCutting) (k new : Kept) (s : Statement) (h : HasTaken source p k) → Finished p (Ok (Some s)) q → Outcome h.sayings s.bytes.now (Ok tt) new → HasAll source q new
last_taken source p q k new s h f (saying, (spells, fine), keeps) =
    let unit = f.last.0 in
    let numbered = f.last.1 in
    let spelt : Spells (statement_bytes unit.bytes) saying = subst (λ bs. Spells bs saying) numbered.slice spells in
    record {
      statements = h.closed ++ unit ∷ [];
      sayings = h.sayings ++ saying ∷ [];
      cut = ends source h.closed (unit ∷ []) p h.cut.0 f.last.2;
      faultless = faultless_more [] h.closed h.sayings unit saying h.faultless (numbered.short, spelt) fine;
      keeps = keeps;
      counted = ap (λ (v : PieceCutting). v.number) f.after ∙ (numbered.number_is ∙ (ap (λ c. c + 1) (count_of source h.closed p h.cut.0) ∙ sym (more_by_one h.closed unit)));
    }

pub last_refused : (source : List ℕ) (p q : PieceCutting) (k new : Kept) (s : Statement) (r : Refusal) (h : HasTaken source p k) → Finished p (Ok (Some s)) q → r.number ≡ s.number → r.offset ≡ s.offset → Outcome h.sayings s.bytes.now (Err r.why) new → IsRefusedBy source r
last_refused source p q k new s r h f number_is place outcome =
    let unit = f.last.0 in
    let numbered = f.last.1 in
    refused_next source h.closed unit h.sayings new r
    (subst (IsNext source h.closed unit h.sayings) (sym number_is) (last_next source p k unit s h numbered f.last.2)) (place ∙ numbered.place)
    (subst (λ bs. Outcome h.sayings bs (Err r.why) new) numbered.slice outcome)

-- statements without a fault spell items
pub all_spelt : (before : List Saying) (us : List TextUnit) (ss : List Saying) → Faultless before us ss → AllZip IsSpelt us ss
all_spelt before [] [] h = tt
all_spelt before [] (s ∷ ss) h = absurd h
all_spelt before (u ∷ us) [] h = absurd h
all_spelt before (u ∷ us) (s ∷ ss) h = (h.0, all_spelt (before ++ s ∷ []) us ss h.2)

pub all_written : (us : List TextUnit) (ss : List Saying) → AllZip IsSpelt us ss → AllByRecursion IsWritten ss
all_written [] [] h = tt
all_written [] (s ∷ ss) h = absurd h
all_written (u ∷ us) [] h = absurd h
all_written (u ∷ us) (s ∷ ss) h = ((statement_bytes u.bytes, h.0.1), all_written us ss h.1)

-- as many bytes as were fed
pub fed_length : (source : List ℕ) (p : PieceCutting) (k : Kept) → HasTaken source p k → p.fed ≡ length source
fed_length source p k h = h.cut.0.took ∙ omega arith

-- nothing yet
pub nothing_taken : (k : Kept) → HasKept [] k → HasTaken [] fresh k
nothing_taken k h = record { closed = []; sayings = []; cut = nothing_fed; faultless = tt; keeps = h }

-- a reader of no bytes
pub new_reader : (p : PieceCutting) (k : Kept) (f : Option Failing) → f ≡ None → p ≡ fresh → HasKept [] k → HasRead [] (record { cutter = p; kept = k; failing = f })
new_reader p k f going start keeps = record { going = going; taken = subst (λ q. HasTaken [] q k) (sym start) (nothing_taken k keeps) }
