-- A reader's steps, by what its parts return.
use Rattle.std.proofs.Common.{◌≡◌, ◌≢◌, ℕ, ◌+◌, ◌-◌, ◌<◌, ◌≤◌, List, [], ◌++◌, length, take, drop, append_assoc, length-drop, Option, Some, None, Result, Ok, Err, refl, sym, ap, ◌∙◌, subst, arith, inl, inr}
use Rattle.std.specs.Prelude.{OnOk, IfSome, IfOk, IfErr, MatchResult}
use Rattle.std.specs.List.{AllByRecursion}
use Rattle.std.proofs.Math.Seq.{take-add, take-length}
use Rattle.std.proofs.lemmas.List.{length-take-le, take-append-drop}
use Rattle.csa_cutting.specs.PieceCutting.{PieceCutting, Leads}
use Rattle.csa_cutting.specs.PieceSteps.{Stepped, Ends, Used, Finished}
use Rattle.csa_text.specs.Spelling.{Spells}
use Rattle.record_game.specs.declared.fault.Why.{Why}
use Rattle.csa_text.specs.Saying.{Saying}
use Rattle.csa_cutting.specs.declared.cutter.CutFault.{CutFault}
use Rattle.csa_cutting.specs.declared.cutter.Statement.{Statement}
use Rattle.csa_text.specs.declared.fault.TextFault.TheVariants.{StatementTooLong}
use Rattle.csa_cutting.specs.declared.piece.Cut.{Cut}
use Rattle.record_game.specs.declared.fault.Refusal.{Refusal}
use Rattle.record_game.specs.declared.fault.OrderFault.TheVariants.{MissingTurn}
use Rattle.record_game.specs.declared.fault.Why.TheVariants.{Text, Order, OutOfMemory}
use Rattle.record_game.specs.Fits.{IsOfStatement}
use Rattle.record_game.specs.Game.{Game}
use Rattle.record_game.specs.Items.{sides}
use Rattle.record_game.specs.Keeping.{Kept, HasKept}
use Rattle.record_game.specs.Taking.{TakenOrRefused}
use Rattle.record_game.specs.Outcome.{Outcome, IsWritten}
use Rattle.csa_record.specs.declared.record_reader.Failing.{Failing}
use Rattle.csa_record.specs.RecordReading.{RecordReading, HasTaken, HasRead}
use Rattle.csa_record.specs.ReadingSteps.{HasAll, IsRefusedBy, LastTaken, MayTakeNext, NextTaken}
use Rattle.csa_record.proofs.Outcomes.{outcome_of}
use Rattle.record_game.specs.Refused.{Refused, FaultlessTo}
use Rattle.record_game.specs.Says.{Says}
use Rattle.record_game.specs.Tells.{Tells}
use Rattle.csa_record.proofs.Onward.{statement_given, statement_taken, statement_refused, nothing_given, long_refused, last_taken, last_refused, all_spelt, all_written, fed_length}

-- the refusal of a statement
abbrev pub RefusalOf : Statement → List Saying → Kept → Refusal → Type 0
RefusalOf s before new r = (r.number ≡ s.number) × (r.offset ≡ s.offset) × Outcome before s.bytes.now (Err r.why) new

pub last_of : (source : List ℕ) (p q : PieceCutting) (k new : Kept) (s : Statement) (result : Result (Unit {0}) Refusal) (h : HasTaken source p k) → Finished p (Ok (Some s)) q
    → OnOk result (Outcome h.sayings s.bytes.now (Ok tt) new) → IfErr result (RefusalOf s h.sayings new) → LastTaken source result q new
last_of source p q k new s (Ok u) h f taken refused = last_taken source p q k new s h f taken
last_of source p q k new s (Err r) h f taken refused = last_refused source p q k new s r h f refused.0 refused.1 refused.2

pub given : (p q : PieceCutting) (piece : List ℕ) (used : ℕ) (s : Statement) → Stepped p piece (Ok (record { used = used; statement = Some s })) q → IsOfStatement s.bytes.now
given p q piece used s f = let u : Ends p piece used s q = f.after.led in statement_given p q (take used piece) u.unit s u.stated u.leads

-- a reader by its parts
abbrev pub reading : PieceCutting → Kept → Option Failing → RecordReading
reading p k f = record { cutter = p; kept = k; failing = f }

pub next_taken : (source piece : List ℕ) (used : ℕ) (p q : PieceCutting) (k new : Kept) (f : Option Failing) (s : Statement) (h : HasRead source (reading p k f)) → Stepped p piece (Ok (record { used = used; statement = Some s })) q
    → Outcome h.taken.sayings s.bytes.now (Ok tt) new → HasRead (source ++ take used piece) (reading q new f)
next_taken source piece used p q k new f s h step taken =
    let u : Ends p piece used s q = step.after.led in
    record { going = h.going; taken = statement_taken source piece used p q k new u.unit s h.taken u.stated u.leads taken }

pub next_refused : (source piece : List ℕ) (used : ℕ) (p q : PieceCutting) (k new : Kept) (f : Option Failing) (s : Statement) (r : Refusal) (h : HasRead source (reading p k f)) → Stepped p piece (Ok (record { used = used; statement = Some s })) q
    → RefusalOf s h.taken.sayings new r → (more : List ℕ) → IsRefusedBy ((source ++ piece) ++ more) r
next_refused source piece used p q k new f s r h step refused more =
    let u : Ends p piece used s q = step.after.led in
    statement_refused source piece more used p q k new u.unit s r h.taken u.stated u.leads refused.0 refused.1 refused.2

pub none_next : (source piece : List ℕ) (used : ℕ) (p q : PieceCutting) (k : Kept) (f : Option Failing) → HasRead source (reading p k f) → Stepped p piece (Ok (record { used = used; statement = None })) q → HasRead (source ++ take used piece) (reading q k f)
none_next source piece used p q k f h step = let u = step.after.led in record { going = h.going; taken = nothing_given source piece used p q k h.taken u.0 u.1 }

pub long_next : (source piece : List ℕ) (p q : PieceCutting) (k : Kept) (f : Option Failing) (fault : CutFault) (r : Refusal) → HasRead source (reading p k f) → Stepped p piece (Err fault) q → r ≡ record { number = fault.number; offset = fault.offset; why = Text StatementTooLong }
    → (more : List ℕ) → IsRefusedBy ((source ++ piece) ++ more) r
long_next source piece p q k f fault r h step is more = long_refused source piece more p q k fault r h.taken step is

-- how far the cutter has come
pub went : (p q : PieceCutting) (piece : List ℕ) (cut : Cut) → 0 < length piece → Stepped p piece (Ok cut) q → (0 < cut.used) × (cut.used ≤ length piece) × (q.fed ≡ p.fed + cut.used)
went p q piece cut some f = by_statement cut.used cut.statement f.after.led
  where
    by_statement : (used : ℕ) (o : Option Statement) → Used p piece used o q → (0 < used) × (used ≤ length piece) × (q.fed ≡ p.fed + used)
    by_statement used None u = (omega (arith, u.0, some), omega (arith, u.0), u.1.took ∙ ap (λ n. p.fed + n) (sym u.0))
    by_statement used (Some s) u =
        let leads = u.leads in
        (u.some, u.within, leads.took ∙ ap (λ n. p.fed + n) (length-take-le used piece u.within))

-- what a step returns for a statement that was taken or refused
abbrev pub Answered : Statement → ℕ → Result (Unit {0}) Why → Result ℕ Refusal → Type 0
Answered s used taken result =
    MatchResult taken (λ _. result ≡ Ok used)
    (λ why. result ≡ Err (record { number = s.number; offset = s.offset; why = why }))

front_went : (piece : List ℕ) (used : ℕ) (p q : PieceCutting) (s : Statement) (taken : Result (Unit {0}) Why) (result : Result ℕ Refusal) → 0 < length piece → Stepped p piece (Ok (record { used = used; statement = Some s })) q → Answered s used taken result → IfOk result (λ n. (0 < n) × (n ≤ length piece) × (q.fed ≡ p.fed + n))
front_went piece used p q s (Ok u) result some step is = rw is (went p q piece (record { used = used; statement = Some s }) some step)
front_went piece used p q s (Err why) result some step is = rw is tt

front_next : (source piece : List ℕ) (used : ℕ) (p q : PieceCutting) (k new : Kept) (f : Option Failing) (s : Statement) (saying : Saying) (taken : Result (Unit {0}) Why) (result : Result ℕ Refusal) → HasRead source (reading p k f) → Stepped p piece (Ok (record { used = used; statement = Some s })) q → Spells s.bytes.now saying
    → ((before : List Saying) → HasKept before k → TakenOrRefused before saying taken new) → Answered s used taken result → NextTaken source piece result (reading q new f)
front_next source piece used p q k new f s saying (Ok u) result h step spells takes is =
    rw is (next_taken source piece used p q k new f s h step (outcome_of h.taken.sayings s.bytes.now saying (Ok tt) new spells (takes h.taken.sayings h.taken.keeps)))
front_next source piece used p q k new f s saying (Err why) result h step spells takes is =
    rw is (next_refused source piece used p q k new f s (record { number = s.number; offset = s.offset; why = why }) h step (refl, refl, outcome_of h.taken.sayings s.bytes.now saying (Err why) new spells (takes h.taken.sayings h.taken.keeps)))

-- a move or a time that was taken or refused
pub front_taken : (piece : List ℕ) (used : ℕ) (p q : PieceCutting) (k new : Kept) (f : Option Failing) (s : Statement) (saying : Saying) (taken : Result (Unit {0}) Why) (result : Result ℕ Refusal) → 0 < length piece → Stepped p piece (Ok (record { used = used; statement = Some s })) q → Spells s.bytes.now saying
    → ((before : List Saying) → HasKept before k → TakenOrRefused before saying taken new) → Answered s used taken result → MayTakeNext (reading p k f) piece (Some result) (reading q new f)
front_taken piece used p q k new f s saying taken result some step spells takes is =
    (front_went piece used p q s taken result some step is, λ source h. front_next source piece used p q k new f s saying taken result h step spells takes is)

-- separators and comments
unspoken_next : (source piece : List ℕ) (used : ℕ) (p q : PieceCutting) (k : Kept) (f : Option Failing) → HasRead source (reading p k f) → used ≤ length piece → Leads p (take used piece) [] q → HasRead (source ++ take used piece) (reading q k f)
unspoken_next source piece used p q k f h within leads =
    let front = take used piece in
    let size : used ≡ length front = sym (length-take-le used piece within) in
    let all : take used front ≡ front = ap (λ n. take n front) size ∙ take-length front in
    record { going = h.going; taken = subst (λ bs. HasTaken (source ++ bs) q k) all (nothing_given source front used p q k h.taken size leads) }

pub unspoken : (source piece : List ℕ) (o : Option ℕ) (p q : PieceCutting) (k : Kept) (f : Option Failing) → HasRead source (reading p k f) → IfSome o (λ used. (0 < used) × (used ≤ length piece)) → IfSome o (λ used. Leads p (take used piece) [] q) → IfSome o (λ used. HasRead (source ++ take used piece) (reading q k f))
unspoken source piece None p q k f h within leads = tt
unspoken source piece (Some used) p q k f h within leads = unspoken_next source piece used p q k f h within.1 leads

-- a piece, split in two
pub piece_more : (source piece : List ℕ) (used more : ℕ) (r : RecordReading) → HasRead ((source ++ take used piece) ++ take more (drop used piece)) r → HasRead (source ++ take (used + more) piece) r
piece_more source piece used more r h =
    subst (λ bs. HasRead bs r) (append_assoc source (take used piece) (take more (drop used piece)) ∙ ap (λ bs. source ++ bs) (sym (take-add used more piece))) h

pub piece_refused : (source piece more : List ℕ) (used : ℕ) (r : Refusal) → IsRefusedBy (((source ++ take used piece) ++ drop used piece) ++ more) r → IsRefusedBy ((source ++ piece) ++ more) r
piece_refused source piece more used r h =
    subst (λ bs. IsRefusedBy (bs ++ more) r) (append_assoc source (take used piece) (drop used piece) ∙ ap (λ bs. source ++ bs) (take-append-drop used piece)) h

-- what is left of a piece, as a slice
pub rest_whole : (used : ℕ) (piece : List ℕ) → take (length piece - used) (drop used piece) ≡ drop used piece
rest_whole used piece = ap (λ n. take n (drop used piece)) (sym (length-drop used piece)) ∙ take-length (drop used piece)

-- what a refusal is, memory aside
pub refused_of : (source : List ℕ) (r : Refusal) → IsRefusedBy source r → r.why ≢ OutOfMemory → Refused source r.number r.offset r.why
refused_of source r (inl h) some = h.1
refused_of source r (inr h) some = absurd (some h.0)

pub memory_of : (source : List ℕ) (r : Refusal) → IsRefusedBy source r → r.why ≡ OutOfMemory → FaultlessTo source r.number r.offset
memory_of source r (inl h) is = absurd (h.0 is)
memory_of source r (inr h) is = h.1

-- the end, if all statements were taken
pub end_report : (source : List ℕ) (p : PieceCutting) (k : Kept) (g : Game) → HasAll source p k → ((sayings : List Saying) → HasKept sayings k → AllByRecursion IsWritten sayings → Says sayings g) → Tells source g
end_report source p k g h says =
    let spelt = all_spelt [] h.statements h.sayings h.faultless in
    record { statements = h.statements; sayings = h.sayings; cut = h.cut; spelt = spelt; says = says h.sayings h.keeps (all_written h.statements h.sayings spelt) }

pub missing_of : (source : List ℕ) (p q : PieceCutting) (k new : Kept) → HasTaken source p k → HasAll source q new → ((sayings : List Saying) → HasKept sayings new → AllByRecursion IsWritten sayings → sides sayings ≡ [])
    → Refused source (q.number + 1) p.fed (Order MissingTurn)
missing_of source p q k new taken h none =
    let spelt = all_spelt [] h.statements h.sayings h.faultless in
    inr (record {
      statements = h.statements;
      sayings = h.sayings;
      cut = h.cut;
      faultless = h.faultless;
      no_side = none h.sayings h.keeps (all_written h.statements h.sayings spelt);
      number_is = ap (λ n. n + 1) h.counted;
      place = fed_length source p k taken;
      why_is = refl;
    })
