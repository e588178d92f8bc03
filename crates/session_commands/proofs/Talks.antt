-- A talk, step by step.
use Rattle.std.proofs.Common.{◌≡◌, inl, inr, ◌⊎◌, ℕ, ◌+◌, ◌-◌, ◌^◌, ◌<◌, ◌≤◌, Bool, true, false, List, [], ◌∷◌, ◌++◌, length, take, drop, Option, Some, None, Result, Ok, Err, refl, sym, ◌∙◌, ap, subst, arith, append-nil, length-append}
use Rattle.std.proofs.Math.Seq.{take-length}
use Rattle.std.specs.Borrow.{Bor}
use Rattle.csa_cutting.specs.Lines.{Lines, HasNoLineEnd}
use Rattle.std.specs.Prelude.{IfOk, IfErr, IsTrue, ◌↔◌}
use Rattle.csa_cutting.specs.declared.line.LineFault.{LineFault}
use Rattle.csa_cutting.specs.declared.line.LineFault.TheVariants as faulty
use Rattle.record_commands.specs.declared.fault.ReadFault.{ReadFault}
use Rattle.record_commands.specs.declared.fault.ReadFault.TheVariants as failing
use Rattle.session_setup.specs.Faults.{cut_fault_of, talk_fault_of}
use Rattle.csa_cutting.specs.LineCutting.{LineCutting, BeginsTooLong, LineStep, LinesAfter, LastLine}
use Rattle.csa_cutting.proofs.LinesOnce.{lines_joined}
use Rattle.record_commands.proofs.Cutting.{held_short, next_short, parted}
use Rattle.record_commands.proofs.LineReading.{rest_run}
use Rattle.session_setup.specs.declared.fault.TalkFault.{TalkFault}
use Rattle.session_setup.specs.declared.fault.TalkFault.TheVariants.{LineTooLong, Read, OutOfMemory}
use Rattle.session_commands.specs.declared.talk.MachineState.{MachineState}
use Rattle.session_commands.specs.declared.talk.MachineState.TheVariants.{Running, Ended}
use Rattle.session_commands.specs.Talking.{IsReply, Talking, TalkGoesOn, Finishes, Stops, TakesNext, TakesPiece, EndsTalk}
use Rattle.session_commands.specs.Talks.{Calls, Passes, MachineRow, IsLongNext, Talked, nothing, bytes_came, end_came, line_answered, IsEnded, IsAnswered, IsUnsent, line_too_long, not_received, endless, not_answered, not_cut, Breaks, BreaksOff, HasAnswered, state_of}

-- ---- lines

only_end : Lines (10 ∷ []) [] []
only_end = (10 ∷ [], refl, (refl, tt), tt)

-- the end ends the unfinished line
ended_line : (held : List ℕ) → HasNoLineEnd held → 0 < length held → Lines (held ++ 10 ∷ []) (held ∷ []) []
ended_line held run some = (10 ∷ [], record { ends = []; whole = refl; skipped = tt; some = some; run = run; closed = refl }, only_end)

-- ---- a talk begins, and goes on

pub talk_begins : {W M : Type 0} (came : Passes W) (ends : Calls W) (went : Passes W) (answers : MachineRow M) (wire : W) (machine : M) (cutter : LineCutting)
    → cutter.held ≡ [] → cutter.limit ≡ 65536 → cutter.failed ≡ false → Talking came ends went answers wire machine 0 cutter [] wire machine
talk_begins came ends went answers wire machine cutter held limit sound = record {
  used = [];
  lines = [];
  talked = nothing;
  cut = rw held ([], refl, tt, tt);
  least = omega arith;
  limit = limit;
  sound = sound;
  short = rw held (omega arith);
}

pub piece_came : {W M : Type 0} (came : Passes W) (ends : Calls W) (went : Passes W) (answers : MachineRow M) (wire : W) (machine : M) (pieces : ℕ) (cutter : LineCutting) (piece : List ℕ) (u v : W) (m : M)
    → Talking came ends went answers wire machine pieces cutter [] u m → came u piece v → 0 < length piece
    → Talking came ends went answers wire machine (pieces + 1) cutter piece v m
piece_came came ends went answers wire machine pieces cutter piece u v m t is some = record {
  used = t.used;
  lines = t.lines;
  talked = bytes_came t.used piece cutter.held t.lines u v m
      (subst (λ xs. Talked came ends went answers wire machine xs false t.lines u m) (append-nil t.used) t.talked) t.cut is;
  cut = t.cut;
  least = omega (arith, t.least, some, length-append t.used [], length-append t.used piece);
  limit = t.limit;
  sound = t.sound;
  short = t.short;
}

-- no line ended in what was left
pub none_ended : {W M : Type 0} (came : Passes W) (ends : Calls W) (went : Passes W) (answers : MachineRow M) (wire : W) (machine : M) (pieces : ℕ) (old new : LineCutting) (piece : List ℕ) (k : ℕ) (u : W) (m : M)
    → Talking came ends went answers wire machine pieces old piece u m → (BeginsTooLong old.limit (old.held ++ piece) → ⊥)
    → LineStep old.held piece (k, None) → LinesAfter old piece (Ok (k, None)) new
    → Talking came ends went answers wire machine pieces new (drop k piece) u m
none_ended came ends went answers wire machine pieces old new piece k u m t few step after =
    let all : take k piece ≡ piece = ap (λ j. take j piece) step.1 ∙ take-length piece in
    let same : (t.used ++ piece) ++ drop k piece ≡ t.used ++ piece =
    ap (λ xs. (t.used ++ xs) ++ drop k piece) (sym all) ∙ parted t.used piece k in
    let joined : Lines (t.used ++ piece) (t.lines ++ []) new.held = lines_joined t.used piece t.lines [] old.held new.held t.cut after.2 in
    record {
      used = t.used ++ piece;
      lines = t.lines;
      talked = subst (λ xs. Talked came ends went answers wire machine xs false t.lines u m) (sym same) t.talked;
      cut = subst (λ ls. Lines (t.used ++ piece) ls new.held) (append-nil t.lines) joined;
      least = subst (λ xs. pieces ≤ length xs) (sym same) t.least;
      limit = after.0 ∙ t.limit;
      sound = after.1;
      short = subst (λ j. length new.held ≤ j) t.limit (held_short old.limit (old.held ++ piece) new.held after.2 few);
    }

-- ---- a line ended in what was left

pub next_of : {W M : Type 0} (came : Passes W) (ends : Calls W) (went : Passes W) (answers : MachineRow M) (wire : W) (machine : M) (pieces : ℕ) (old : LineCutting) (piece : List ℕ) (k : ℕ) (line : Bor (List ℕ)) (u : W) (m : M)
    (t : Talking came ends went answers wire machine pieces old piece u m) → LineStep old.held piece (k, Some line)
    → Lines (t.used ++ take k piece) (t.lines ++ line.now ∷ []) []
next_of came ends went answers wire machine pieces old piece k line u m t step =
    lines_joined t.used (take k piece) t.lines (line.now ∷ []) old.held [] t.cut step.1.1

pub line_ended : {W M : Type 0} (came : Passes W) (ends : Calls W) (went : Passes W) (answers : MachineRow M) (wire : W) (machine : M) (pieces : ℕ) (old new : LineCutting) (piece : List ℕ) (k : ℕ) (line : Bor (List ℕ)) (u v : W) (m n : M)
    → Talking came ends went answers wire machine pieces old piece u m → (BeginsTooLong old.limit (old.held ++ piece) → ⊥)
    → LineStep old.held piece (k, Some line) → LinesAfter old piece (Ok (k, Some line)) new
    → IsReply went answers u m line.now Running v n
    → Talking came ends went answers wire machine pieces new (drop k piece) v n
line_ended came ends went answers wire machine pieces old new piece k line u v m n t few step after reply =
    let same = parted t.used piece k in
    let empty : new.held ≡ [] = after.2 in
    let cut = next_of came ends went answers wire machine pieces old piece k line u m t step in
    record {
      used = t.used ++ take k piece;
      lines = t.lines ++ line.now ∷ [];
      talked = subst (λ xs. Talked came ends went answers wire machine xs false (t.lines ++ line.now ∷ []) v n) (sym same)
          (line_answered (t.used ++ piece) line.now reply.0 false t.lines u v m n t.talked
          (t.used ++ take k piece, drop k piece, sym same, cut) (next_short old piece k line t.limit few step) reply.1 reply.2);
      cut = rw empty cut;
      least = subst (λ xs. pieces ≤ length xs) (sym same) t.least;
      limit = after.0 ∙ t.limit;
      sound = after.1;
      short = rw empty (omega arith);
    }

pub machine_ended : {W M : Type 0} (came : Passes W) (ends : Calls W) (went : Passes W) (answers : MachineRow M) (wire : W) (machine : M) (pieces : ℕ) (old : LineCutting) (piece : List ℕ) (k : ℕ) (line : Bor (List ℕ)) (u v : W) (m n : M)
    → Talking came ends went answers wire machine pieces old piece u m → (BeginsTooLong old.limit (old.held ++ piece) → ⊥)
    → LineStep old.held piece (k, Some line)
    → IsReply went answers u m line.now Ended v n
    → IsEnded came ends went answers wire machine v n
machine_ended came ends went answers wire machine pieces old piece k line u v m n t few step reply = record {
  bytes = t.used ++ piece;
  over = false;
  lines = t.lines;
  before = u;
  last = m;
  talked = t.talked;
  line = line.now;
  next = (t.used ++ take k piece, drop k piece, sym (parted t.used piece k), next_of came ends went answers wire machine pieces old piece k line u m t step);
  short = next_short old piece k line t.limit few step;
  text = reply.0;
  answered = reply.1;
  sent = reply.2;
}

-- ---- a talk breaks off

breaks_at : {W M : Type 0} (came : Passes W) (ends : Calls W) (went : Passes W) (silent : Calls W) (blocked : Passes W) (answers : MachineRow M) (wire : W) (machine : M) (pieces : ℕ) (old : LineCutting) (left : List ℕ) (u v : W) (m : M) (fault : TalkFault)
    (t : Talking came ends went answers wire machine pieces old left u m) → Breaks silent blocked answers (t.used ++ left) false t.lines u m v fault
    → BreaksOff came ends went silent blocked answers wire machine fault v
breaks_at came ends went silent blocked answers wire machine pieces old left u v m fault t breaks =
    record { bytes = t.used ++ left; over = false; lines = t.lines; before = u; last = m; talked = t.talked; breaks = breaks }

pub not_replied : {W M : Type 0} (came : Passes W) (ends : Calls W) (went : Passes W) (silent : Calls W) (blocked : Passes W) (answers : MachineRow M) (wire : W) (machine : M) (pieces : ℕ) (old : LineCutting) (piece : List ℕ) (k : ℕ) (line : Bor (List ℕ)) (u v : W) (m : M) (fault : TalkFault)
    → Talking came ends went answers wire machine pieces old piece u m → LineStep old.held piece (k, Some line)
    → IsUnsent blocked answers u m line.now v fault
    → BreaksOff came ends went silent blocked answers wire machine fault v
not_replied came ends went silent blocked answers wire machine pieces old piece k line u v m fault t step unsent =
    breaks_at came ends went silent blocked answers wire machine pieces old piece u v m fault t (not_answered line.now fault (t.used ++ take k piece, drop k piece, sym (parted t.used piece k), next_of came ends went answers wire machine pieces old piece k line u m t step) unsent)

long_next : (used piece : List ℕ) (lines : List (List ℕ)) (old : LineCutting) → Lines used lines old.held → old.limit ≡ 65536 → old.failed ≡ false
    → (old.failed ≡ true) ⊎ BeginsTooLong old.limit (old.held ++ piece) → IsLongNext (used ++ piece) lines
long_next used piece lines old cut limit sound (inl failed) = absurd cc
long_next used piece lines old cut limit sound (inr long) =
    (used, piece, old.held, refl, cut, subst (λ j. BeginsTooLong j (old.held ++ piece)) limit long)

pub line_long : {W M : Type 0} (came : Passes W) (ends : Calls W) (went : Passes W) (silent : Calls W) (blocked : Passes W) (answers : MachineRow M) (wire : W) (machine : M) (pieces : ℕ) (old : LineCutting) (piece : List ℕ) (u : W) (m : M)
    → Talking came ends went answers wire machine pieces old piece u m
    → (old.failed ≡ true) ⊎ BeginsTooLong old.limit (old.held ++ piece)
    → BreaksOff came ends went silent blocked answers wire machine LineTooLong u
line_long came ends went silent blocked answers wire machine pieces old piece u m t long =
    breaks_at came ends went silent blocked answers wire machine pieces old piece u u m LineTooLong t (line_too_long (long_next t.used piece t.lines old t.cut t.limit t.sound long) refl)

pub line_uncut : {W M : Type 0} (came : Passes W) (ends : Calls W) (went : Passes W) (silent : Calls W) (blocked : Passes W) (answers : MachineRow M) (wire : W) (machine : M) (pieces : ℕ) (old : LineCutting) (piece : List ℕ) (u : W) (m : M)
    → Talking came ends went answers wire machine pieces old piece u m
    → BreaksOff came ends went silent blocked answers wire machine OutOfMemory u
line_uncut came ends went silent blocked answers wire machine pieces old piece u m t =
    breaks_at came ends went silent blocked answers wire machine pieces old piece u u m OutOfMemory t (not_cut refl)

pub read_fault : (why : ReadFault) → (talk_fault_of why ≡ Read) ⊎ (talk_fault_of why ≡ OutOfMemory)
read_fault failing.Failed = inl refl
read_fault failing.OutOfMemory = inr refl

pub fell_silent : {W M : Type 0} (came : Passes W) (ends : Calls W) (went : Passes W) (silent : Calls W) (blocked : Passes W) (answers : MachineRow M) (wire : W) (machine : M) (pieces : ℕ) (old : LineCutting) (u v : W) (m : M) (fault : TalkFault)
    → (fault ≡ Read) ⊎ (fault ≡ OutOfMemory) → Talking came ends went answers wire machine pieces old [] u m → silent u v
    → BreaksOff came ends went silent blocked answers wire machine fault v
fell_silent came ends went silent blocked answers wire machine pieces old u v m fault why t is =
    breaks_at came ends went silent blocked answers wire machine pieces old [] u v m fault t (not_received old.held fault why (subst (λ xs. Lines xs t.lines old.held) (sym (append-nil t.used)) t.cut) is)

pub never_ends : {W M : Type 0} (came : Passes W) (ends : Calls W) (went : Passes W) (silent : Calls W) (blocked : Passes W) (answers : MachineRow M) (wire : W) (machine : M) (pieces : ℕ) (old : LineCutting) (u : W) (m : M)
    → Talking came ends went answers wire machine pieces old [] u m → 2 ^ 64 - 1 ≤ pieces
    → BreaksOff came ends went silent blocked answers wire machine Read u
never_ends came ends went silent blocked answers wire machine pieces old u m t many =
    breaks_at came ends went silent blocked answers wire machine pieces old [] u u m Read t (endless old.held (subst (λ xs. Lines xs t.lines old.held) (sym (append-nil t.used)) t.cut) (omega (arith, many, t.least)) refl)

-- ---- the end

end_talked : {W M : Type 0} (came : Passes W) (ends : Calls W) (went : Passes W) (answers : MachineRow M) (wire : W) (machine : M) (pieces : ℕ) (old : LineCutting) (u v : W) (m : M)
    (t : Talking came ends went answers wire machine pieces old [] u m) → ends u v
    → Talked came ends went answers wire machine (t.used ++ 10 ∷ []) true t.lines v m
end_talked came ends went answers wire machine pieces old u v m t is =
    end_came t.used old.held t.lines u v m (subst (λ xs. Talked came ends went answers wire machine xs false t.lines u m) (append-nil t.used) t.talked) t.cut is

pub all_answered : {W M : Type 0} (came : Passes W) (ends : Calls W) (went : Passes W) (answers : MachineRow M) (wire : W) (machine : M) (pieces : ℕ) (old : LineCutting) (u v : W) (m : M)
    → Talking came ends went answers wire machine pieces old [] u m → ends u v → old.held ≡ []
    → IsAnswered came ends went answers wire machine v m
all_answered came ends went answers wire machine pieces old u v m t is empty =
    let tail : Lines (old.held ++ 10 ∷ []) [] [] = rw empty only_end in
    let joined : Lines (t.used ++ 10 ∷ []) (t.lines ++ []) [] = lines_joined t.used (10 ∷ []) t.lines [] old.held [] t.cut tail in
    record {
      bytes = t.used ++ 10 ∷ [];
      lines = t.lines;
      talked = end_talked came ends went answers wire machine pieces old u v m t is;
      all = subst (λ ls. Lines (t.used ++ 10 ∷ []) ls []) (append-nil t.lines) joined;
    }

pub last_next : {W M : Type 0} (came : Passes W) (ends : Calls W) (went : Passes W) (answers : MachineRow M) (wire : W) (machine : M) (pieces : ℕ) (old : LineCutting) (line : List ℕ) (u : W) (m : M)
    (t : Talking came ends went answers wire machine pieces old [] u m) → line ≡ old.held → 0 < length old.held
    → Lines (t.used ++ 10 ∷ []) (t.lines ++ line ∷ []) []
last_next came ends went answers wire machine pieces old line u m t is some =
    rw is (lines_joined t.used (10 ∷ []) t.lines (old.held ∷ []) old.held [] t.cut (ended_line old.held (rest_run t.used t.lines old.held t.cut) some))

ends_whole : (xs : List ℕ) → xs ≡ xs ++ []
ends_whole xs = sym (append-nil xs)

pub last_answered : {W M : Type 0} (came : Passes W) (ends : Calls W) (went : Passes W) (answers : MachineRow M) (wire : W) (machine : M) (pieces : ℕ) (old : LineCutting) (line : List ℕ) (u v x : W) (m n : M)
    → Talking came ends went answers wire machine pieces old [] u m → ends u v → line ≡ old.held → 0 < length old.held
    → IsReply went answers v m line Running x n
    → IsAnswered came ends went answers wire machine x n
last_answered came ends went answers wire machine pieces old line u v x m n t is same some reply =
    let all = last_next came ends went answers wire machine pieces old line u m t same some in
    record {
      bytes = t.used ++ 10 ∷ [];
      lines = t.lines ++ line ∷ [];
      talked = line_answered (t.used ++ 10 ∷ []) line reply.0 true t.lines v x m n (end_talked came ends went answers wire machine pieces old u v m t is)
          (t.used ++ 10 ∷ [], [], ends_whole (t.used ++ 10 ∷ []), all) (rw same t.short) reply.1 reply.2;
      all = all;
    }

pub last_ended : {W M : Type 0} (came : Passes W) (ends : Calls W) (went : Passes W) (answers : MachineRow M) (wire : W) (machine : M) (pieces : ℕ) (old : LineCutting) (line : List ℕ) (u v x : W) (m n : M)
    → Talking came ends went answers wire machine pieces old [] u m → ends u v → line ≡ old.held → 0 < length old.held
    → IsReply went answers v m line Ended x n
    → IsEnded came ends went answers wire machine x n
last_ended came ends went answers wire machine pieces old line u v x m n t is same some reply = record {
  bytes = t.used ++ 10 ∷ [];
  over = true;
  lines = t.lines;
  before = v;
  last = m;
  talked = end_talked came ends went answers wire machine pieces old u v m t is;
  line = line;
  next = (t.used ++ 10 ∷ [], [], ends_whole (t.used ++ 10 ∷ []), last_next came ends went answers wire machine pieces old line u m t same some);
  short = rw same t.short;
  text = reply.0;
  answered = reply.1;
  sent = reply.2;
}

pub last_not_replied : {W M : Type 0} (came : Passes W) (ends : Calls W) (went : Passes W) (silent : Calls W) (blocked : Passes W) (answers : MachineRow M) (wire : W) (machine : M) (pieces : ℕ) (old : LineCutting) (line : List ℕ) (u v x : W) (m : M) (fault : TalkFault)
    → Talking came ends went answers wire machine pieces old [] u m → ends u v → line ≡ old.held → 0 < length old.held
    → IsUnsent blocked answers v m line x fault
    → BreaksOff came ends went silent blocked answers wire machine fault x
last_not_replied came ends went silent blocked answers wire machine pieces old line u v x m fault t is same some unsent = record {
  bytes = t.used ++ 10 ∷ [];
  over = true;
  lines = t.lines;
  before = v;
  last = m;
  talked = end_talked came ends went answers wire machine pieces old u v m t is;
  breaks = not_answered line fault (t.used ++ 10 ∷ [], [], ends_whole (t.used ++ 10 ∷ []), last_next came ends went answers wire machine pieces old line u m t same some) unsent;
}

-- ---- the calls

step_as : (held piece : List ℕ) (r : ℕ × Option (Bor (List ℕ))) (found : Option (Bor (List ℕ))) → r.1 ≡ found → LineStep held piece r → LineStep held piece (r.0, found)
step_as held piece (k, o) found is step = subst (λ x. LineStep held piece (k, x)) is step

after_as : (old : LineCutting) (piece : List ℕ) (r : ℕ × Option (Bor (List ℕ))) (found : Option (Bor (List ℕ))) (new : LineCutting) → r.1 ≡ found → LinesAfter old piece (Ok r) new → LinesAfter old piece (Ok (r.0, found)) new
after_as old piece (k, o) found new is after = subst (λ x. LinesAfter old piece (Ok (k, x)) new) is after

pub next_none : {W M : Type 0} (came : Passes W) (ends : Calls W) (went : Passes W) (answers : MachineRow M) (old new : LineCutting) (piece : List ℕ) (r : ℕ × Option (Bor (List ℕ))) (u : W) (m : M)
    → r.1 ≡ None → ((old.failed ≡ true) ⊎ BeginsTooLong old.limit (old.held ++ piece) → ⊥)
    → LineStep old.held piece r → LinesAfter old piece (Ok r) new
    → TalkGoesOn came ends went answers old piece u m new (drop r.0 piece) u m
next_none came ends went answers old new piece r u m is few step after = λ wire machine pieces t.
    none_ended came ends went answers wire machine pieces old new piece r.0 u m t (λ long. few (inr long)) (step_as old.held piece r None is step) (after_as old piece r None new is after)

pub next_answered : {W M : Type 0} (came : Passes W) (ends : Calls W) (went : Passes W) (answers : MachineRow M) (old new : LineCutting) (piece : List ℕ) (r : ℕ × Option (Bor (List ℕ))) (line : Bor (List ℕ)) (u v : W) (m n : M) (ended : MachineState)
    → ended ≡ Running → r.1 ≡ Some line → ((old.failed ≡ true) ⊎ BeginsTooLong old.limit (old.held ++ piece) → ⊥)
    → LineStep old.held piece r → LinesAfter old piece (Ok r) new → IsReply went answers u m line.now ended v n
    → TalkGoesOn came ends went answers old piece u m new (drop r.0 piece) v n
next_answered came ends went answers old new piece r line u v m n ended is_false is few step after reply = λ wire machine pieces t.
    line_ended came ends went answers wire machine pieces old new piece r.0 line u v m n t (λ long. few (inr long)) (step_as old.held piece r (Some line) is step) (after_as old piece r (Some line) new is after)
    (subst (λ b. IsReply went answers u m line.now b v n) is_false reply)

pub next_finishes : {W M : Type 0} (came : Passes W) (ends : Calls W) (went : Passes W) (answers : MachineRow M) (old : LineCutting) (piece : List ℕ) (r : ℕ × Option (Bor (List ℕ))) (line : Bor (List ℕ)) (u v : W) (m n : M) (ended : MachineState)
    → ended ≡ Ended → r.1 ≡ Some line → ((old.failed ≡ true) ⊎ BeginsTooLong old.limit (old.held ++ piece) → ⊥)
    → LineStep old.held piece r → IsReply went answers u m line.now ended v n
    → Finishes came ends went answers old piece u m v n
next_finishes came ends went answers old piece r line u v m n ended is_true is few step reply = λ wire machine pieces t.
    machine_ended came ends went answers wire machine pieces old piece r.0 line u v m n t (λ long. few (inr long)) (step_as old.held piece r (Some line) is step)
    (subst (λ b. IsReply went answers u m line.now b v n) is_true reply)

pub next_unanswered : {W M : Type 0} (came : Passes W) (ends : Calls W) (went : Passes W) (silent : Calls W) (blocked : Passes W) (answers : MachineRow M) (old : LineCutting) (piece : List ℕ) (r : ℕ × Option (Bor (List ℕ))) (line : Bor (List ℕ)) (u v : W) (m : M) (fault : TalkFault)
    → r.1 ≡ Some line → LineStep old.held piece r → IsUnsent blocked answers u m line.now v fault
    → Stops came ends went silent blocked answers old piece u m fault v
next_unanswered came ends went silent blocked answers old piece r line u v m fault is step unsent = λ wire machine pieces t.
    not_replied came ends went silent blocked answers wire machine pieces old piece r.0 line u v m fault t (step_as old.held piece r (Some line) is step) unsent

pub next_uncut : {W M : Type 0} (came : Passes W) (ends : Calls W) (went : Passes W) (silent : Calls W) (blocked : Passes W) (answers : MachineRow M) (old : LineCutting) (piece : List ℕ) (u : W) (m : M) (why : LineFault) (fault : TalkFault)
    → fault ≡ cut_fault_of why → (why ≡ faulty.TooLong → (old.failed ≡ true) ⊎ BeginsTooLong old.limit (old.held ++ piece))
    → Stops came ends went silent blocked answers old piece u m fault u
next_uncut came ends went silent blocked answers old piece u m faulty.TooLong fault is long = λ wire machine pieces t.
    rw is (line_long came ends went silent blocked answers wire machine pieces old piece u m t (long refl))
next_uncut came ends went silent blocked answers old piece u m faulty.OutOfMemory fault is long = λ wire machine pieces t.
    rw is (line_uncut came ends went silent blocked answers wire machine pieces old piece u m t)

pub finishes_at : {W M : Type 0} (came : Passes W) (ends : Calls W) (went : Passes W) (silent : Calls W) (blocked : Passes W) (answers : MachineRow M) (old new : LineCutting) (piece : List ℕ) (found : Option ℕ) (u v : W) (m n : M)
    → found ≡ None → TakesNext came ends went silent blocked answers old piece u m (Ok found) new v n
    → Finishes came ends went answers old piece u m v n
finishes_at came ends went silent blocked answers old new piece found u v m n is next =
    subst (λ o. TakesNext came ends went silent blocked answers old piece u m (Ok o) new v n) is next

pub ends_none : {W M : Type 0} (came : Passes W) (ends : Calls W) (went : Passes W) (answers : MachineRow M) (old : LineCutting) (u : W) (m : M) (last : Option (Bor (List ℕ)))
    → last ≡ None → LastLine old.held last
    → (wire : W) (machine : M) (pieces : ℕ) (before : W) → Talking came ends went answers wire machine pieces old [] before m → ends before u
    → IsAnswered came ends went answers wire machine u m
ends_none came ends went answers old u m last is found = λ wire machine pieces before t over.
    all_answered came ends went answers wire machine pieces old before u m t over (subst (LastLine old.held) is found)

pub ends_some : {W M : Type 0} (came : Passes W) (ends : Calls W) (went : Passes W) (silent : Calls W) (blocked : Passes W) (answers : MachineRow M) (old : LineCutting) (u v : W) (m n : M) (last : Option (Bor (List ℕ))) (line : Bor (List ℕ)) (r : Result MachineState TalkFault)
    → last ≡ Some line → LastLine old.held last
    → IfOk r (λ ended. IsReply went answers u m line.now ended v n)
    → IfErr r (λ fault. IsUnsent blocked answers u m line.now v fault)
    → EndsTalk came ends went silent blocked answers old u m r v n
ends_some came ends went silent blocked answers old u v m n last line (Ok Ended) is found reply unsent = λ wire machine pieces before t over.
    let whole : LastLine old.held (Some line) = subst (LastLine old.held) is found in
    last_ended came ends went answers wire machine pieces old line.now before u v m n t over whole.0 whole.1 reply
ends_some came ends went silent blocked answers old u v m n last line (Ok Running) is found reply unsent = λ wire machine pieces before t over.
    let whole : LastLine old.held (Some line) = subst (LastLine old.held) is found in
    last_answered came ends went answers wire machine pieces old line.now before u v m n t over whole.0 whole.1 reply
ends_some came ends went silent blocked answers old u v m n last line (Err fault) is found reply unsent = λ wire machine pieces before t over.
    let whole : LastLine old.held (Some line) = subst (LastLine old.held) is found in
    last_not_replied came ends went silent blocked answers wire machine pieces old line.now before u v m fault t over whole.0 whole.1 unsent

pub talk_ends : {W M : Type 0} (came : Passes W) (ends : Calls W) (went : Passes W) (silent : Calls W) (blocked : Passes W) (answers : MachineRow M) (old : LineCutting) (u v : W) (m n : M) (r : Result MachineState TalkFault) (wire : W) (machine : M) (pieces : ℕ) (before : W)
    → EndsTalk came ends went silent blocked answers old u m r v n
    → Talking came ends went answers wire machine pieces old [] before m → ends before u
    → IfOk r (λ ended. HasAnswered came ends went answers wire machine ended v n)
    × IfErr r (λ fault. BreaksOff came ends went silent blocked answers wire machine fault v)
talk_ends came ends went silent blocked answers old u v m n (Ok ended) wire machine pieces before h t over = (h wire machine pieces before t over, tt)
talk_ends came ends went silent blocked answers old u v m n (Err fault) wire machine pieces before h t over = (tt, h wire machine pieces before t over)

pub piece_finishes : {W M : Type 0} (came : Passes W) (ends : Calls W) (went : Passes W) (silent : Calls W) (blocked : Passes W) (answers : MachineRow M) (old new : LineCutting) (piece : List ℕ) (ended : MachineState) (u v : W) (m n : M)
    → ended ≡ Ended → TakesPiece came ends went silent blocked answers old piece u m (Ok ended) new v n
    → Finishes came ends went answers old piece u m v n
piece_finishes came ends went silent blocked answers old new piece ended u v m n is next =
    subst (λ b. TakesPiece came ends went silent blocked answers old piece u m (Ok b) new v n) is next

pub piece_goes_on : {W M : Type 0} (came : Passes W) (ends : Calls W) (went : Passes W) (silent : Calls W) (blocked : Passes W) (answers : MachineRow M) (old new : LineCutting) (piece : List ℕ) (ended : MachineState) (u v : W) (m n : M)
    → ended ≡ Running → TakesPiece came ends went silent blocked answers old piece u m (Ok ended) new v n
    → TalkGoesOn came ends went answers old piece u m new [] v n
piece_goes_on came ends went silent blocked answers old new piece ended u v m n is next =
    subst (λ b. TakesPiece came ends went silent blocked answers old piece u m (Ok b) new v n) is next

-- a machine has ended if its answer says so
pub ended_state : {P : Type 0} (ended : Bool) → IsTrue ended ↔ P → (state_of ended ≡ Ended) ↔ P
ended_state true holds = (λ is. holds.0 refl, λ p. refl)
ended_state false holds = (λ is. absurd cc, λ p. let is = holds.1 p in absurd cc)

-- what the clauses of an answer say together
pub answered_so : {T E : Type 0} (r : Result T E) (text : T → List ℕ) (over : T → Bool) (Row : List (List ℕ) → Type 0) (text_of : List (List ℕ) → List ℕ) (Over : Type 0)
    → IfOk r (λ out. (lines : List (List ℕ)) × Row lines) → IfOk r (λ out. (lines : List (List ℕ)) → Row lines → text out ≡ text_of lines) → IfOk r (λ out. IsTrue (over out) ↔ Over)
    → IfOk r (λ out. ((lines : List (List ℕ)) × Row lines × (text out ≡ text_of lines)) × ((state_of (over out) ≡ Ended) ↔ Over))
answered_so (Ok out) text over Row text_of Over row lines ended = ((row.0, row.1, lines row.0 row.1), ended_state (over out) ended)
answered_so (Err e) text over Row text_of Over row lines ended = tt
