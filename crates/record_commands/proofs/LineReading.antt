-- A reader whose bytes are cut into lines.
use Rattle.std.proofs.Common.{◌≡◌, ◌⊎◌, inl, inr, ℕ, ◌<◌, ◌≤◌, true, is_some, List, [], ◌∷◌, ◌++◌, length, take, drop, Option, None, Some, IfSome, Result, Ok, Err, IfErr, refl, sym, ◌∙◌, ap, subst, append-nil, append_assoc, take-append-drop, arith}
use Rattle.std.proofs.Math.Seq.{take-length}
use Rattle.std.proofs.lemmas.List.{take-take}
use Rattle.std.specs.Io.{StartsWith}
use Rattle.std.specs.Io.BufRead.{DropsConsumable}
use Rattle.std.specs.Io.KnownBytes.{Consumes, Keeps, prepend_known}
use Rattle.std.proofs.KnownBytes.{Consumes-kept, Consumes-nil, Consumes-trans, starts_with_rest}
use Rattle.csa_cutting.specs.Lines.{Lines, AreLineEnds, HasNoLineEnd}
use Rattle.csa_cutting.specs.LineCutting.{LineCutting, BeginsTooLong}
use Rattle.csa_cutting.proofs.LinesOnce.{lines_joined}
use Rattle.csa_cutting.specs.declared.line.LineFault.{LineFault}
use Rattle.csa_cutting.specs.declared.line.LineFault.TheVariants as faults
use Rattle.std.specs.Result.{IsErrAnd}
use Rattle.shogi_board.specs.declared.memory.OutOfMemory.{OutOfMemory}
use Rattle.record_commands.specs.declared.incoming.LineEvent.{LineEvent}
use Rattle.record_commands.specs.declared.incoming.LineEvent.TheVariants.{Failed}
use Rattle.record_commands.specs.declared.incoming.ReadStop.{ReadStop}
use Rattle.record_commands.specs.declared.incoming.ReadStop.TheVariants as stops
use Rattle.record_commands.specs.Incoming.{GivesEnd, GivesLine, ended, last, GivesNoLine, GivesLongLine, stop_after, stop_of}
use Rattle.record_commands.specs.IncomingPieces.{IsReading, PieceGives, PieceStops}

pub rest_run : (bytes : List ℕ) (lines : List (List ℕ)) (rest : List ℕ) → Lines bytes lines rest → HasNoLineEnd rest
rest_run bytes [] rest (ends, whole, skipped, run) = run
rest_run bytes (line ∷ lines) rest (after, n, others) = rest_run after lines rest others

no_bytes : Lines [] [] []
no_bytes = ([], refl, tt, tt)

-- nothing came
pub gives_nothing : (old new : Option (List ℕ)) → Keeps old new → GivesNoLine old new
gives_nothing old new kept = ([], Consumes-kept old old new [] (Consumes-nil old) kept, no_bytes)

joined : (xs ys : List ℕ) → AreLineEnds xs → AreLineEnds ys → AreLineEnds (xs ++ ys)
joined [] ys p q = q
joined (x ∷ xs) ys p q = (p.0, joined xs ys p.1 q)

all_after : (a b : Option (List ℕ)) (front more : List ℕ) → Consumes a b front → IfSome b (λ ys. ys ≡ more) → IfSome a (λ xs. xs ≡ front ++ more)
all_after None b front more taken all = tt
all_after (Some xs) None front more taken all = absurd taken
all_after (Some xs) (Some ys) front more taken all = taken ∙ ap (λ zs. front ++ zs) all

all_held : (old : Option (List ℕ)) (held : List ℕ) → IfSome old (λ xs. xs ≡ []) → IfSome (prepend_known held old) (λ xs. xs ≡ held)
all_held None held over = tt
all_held (Some xs) held over = ap (λ zs. held ++ zs) over ∙ append-nil held

-- line ends, and then what follows them
pub none_then_none : (a b c : Option (List ℕ)) → GivesNoLine a b → GivesNoLine b c → GivesNoLine a c
none_then_none a b c (front, taken, cut) (more, after, next) =
    (front ++ more, Consumes-trans a b c front more taken after, lines_joined front more [] [] [] [] cut next)

pub none_then_line : (a b c : Option (List ℕ)) (line : List ℕ) → GivesNoLine a b → GivesLine b c line → GivesLine a c line
none_then_line a b c line (front, taken, cut) (ended more after next) =
    ended (front ++ more) (Consumes-trans a b c front more taken after) (lines_joined front more [] (line ∷ []) [] [] cut next)
none_then_line a b c line (front, taken, cut) (last more after over next some) =
    last (front ++ more) (Consumes-trans a b c front more taken after) (all_after a b front more taken over) (lines_joined front more [] [] [] line cut next) some

pub none_then_end : (a b c : Option (List ℕ)) → GivesNoLine a b → GivesEnd b c → GivesEnd a c
none_then_end a b c (front, taken, cut) (more, after, next, over) =
    (front ++ more, Consumes-trans a b c front more taken after, lines_joined front more [] [] [] [] cut next, all_after a b front more taken over)

begins_after : (a b : Option (List ℕ)) (front : List ℕ) → Consumes a b front → Lines front [] [] → IfSome b (BeginsTooLong 65536) → IfSome a (BeginsTooLong 65536)
begins_after None b front taken cut long = tt
begins_after (Some xs) None front taken cut long = absurd taken
begins_after (Some xs) (Some ys) front taken (skipped, parts, are, run) (ends, line, after, whole, more, runs, many) =
    (front ++ ends, line, after, taken ∙ ap (λ zs. front ++ zs) whole ∙ sym (append_assoc front ends (line ++ after)), joined front ends (subst AreLineEnds (sym (parts ∙ append-nil skipped)) are) more, runs, many)

pub none_then_long : (a b c : Option (List ℕ)) → GivesNoLine a b → GivesLongLine b c → GivesLongLine a c
none_then_long a b c none (next, long) = (none_then_none a b c none next, begins_after a b none.0 none.1 none.2 long)

-- the front of a piece that was lent is used
front_taken : (old shown new : Option (List ℕ)) (piece : List ℕ) (k n : ℕ)
    → IfSome old (λ xs. StartsWith xs piece) → Keeps old shown → IfSome old (λ _. length piece ≤ n)
    → DropsConsumable shown new (Some n) k → k ≤ length piece → Consumes old new (take k piece)
front_taken None shown new piece k n starts kept enough dropped within = tt
front_taken (Some xs) None new piece k n starts kept enough dropped within = absurd kept
front_taken (Some xs) (Some ys) new piece k n starts kept enough dropped within =
    let same : new ≡ Some (drop k ys) = dropped (omega (arith, within, enough)) in
    let front : take k piece ≡ take k xs = ap (take k) (sym starts) ∙ take-take k (length piece) xs within in
    subst (λ o. Consumes (Some xs) o (take k piece)) (sym same) (rw (kept, front) (sym (take-append-drop k xs)))

-- and with what was held before it
held_taken : (old new : Option (List ℕ)) (bytes held front rest : List ℕ)
    → Consumes old new bytes → held ++ bytes ≡ front ++ rest
    → Consumes (prepend_known held old) (prepend_known rest new) front
held_taken None new bytes held front rest taken same = tt
held_taken (Some xs) None bytes held front rest taken same = absurd taken
held_taken (Some xs) (Some ys) bytes held front rest taken same =
    ap (λ zs. held ++ zs) taken ∙ sym (append_assoc held bytes ys) ∙ ap (λ zs. zs ++ ys) same ∙ append_assoc front rest ys

-- a line ended in the piece
pub piece_line : (old shown new : Option (List ℕ)) (piece held line : List ℕ) (k n : ℕ)
    → IfSome old (λ xs. StartsWith xs piece) → Keeps old shown → IfSome old (λ _. length piece ≤ n)
    → DropsConsumable shown new (Some n) k → k ≤ length piece → Lines (held ++ take k piece) (line ∷ []) []
    → GivesLine (prepend_known held old) (prepend_known [] new) line
piece_line old shown new piece held line k n starts kept enough dropped within cut =
    ended (held ++ take k piece)
    (held_taken old new (take k piece) held (held ++ take k piece) [] (front_taken old shown new piece k n starts kept enough dropped within) (sym (append-nil (held ++ take k piece)))) cut

-- none did
pub piece_none : (old shown new : Option (List ℕ)) (piece held rest : List ℕ) (k n : ℕ)
    → IfSome old (λ xs. StartsWith xs piece) → Keeps old shown → IfSome old (λ _. length piece ≤ n)
    → DropsConsumable shown new (Some n) k → k ≡ length piece → Lines (held ++ piece) [] rest
    → GivesNoLine (prepend_known held old) (prepend_known rest new)
piece_none old shown new piece held rest k n starts kept enough dropped whole (ends, parts, skipped, run) =
    let all : take k piece ≡ piece = ap (λ j. take j piece) whole ∙ take-length piece in (
      ends,
      held_taken old new piece held ends rest (subst (Consumes old new) all (front_taken old shown new piece k n starts kept enough dropped (omega (arith, whole)))) parts,
      (ends, sym (append-nil ends), skipped, tt),
    )

-- the piece goes on with a line that is too long
longer_front : (xs ys : List ℕ) → BeginsTooLong 65536 xs → BeginsTooLong 65536 (xs ++ ys)
longer_front xs ys (ends, line, after, whole, skipped, run, many) =
    (ends, line, after ++ ys, ap (λ zs. zs ++ ys) whole ∙ append_assoc ends (line ++ after) ys ∙ ap (λ zs. ends ++ zs) (append_assoc line after ys), skipped, run, many)

starts_long : (old : Option (List ℕ)) (piece held : List ℕ)
    → IfSome old (λ xs. StartsWith xs piece) → BeginsTooLong 65536 (held ++ piece)
    → IfSome (prepend_known held old) (BeginsTooLong 65536)
starts_long None piece held starts long = tt
starts_long (Some xs) piece held starts long =
    let whole : xs ≡ piece ++ drop (length piece) xs = starts_with_rest xs piece starts in
    subst (BeginsTooLong 65536) (append_assoc held piece (drop (length piece) xs) ∙ ap (λ zs. held ++ zs) (sym whole))
    (longer_front (held ++ piece) (drop (length piece) xs) long)

pub held_kept : (old new : Option (List ℕ)) (held : List ℕ) → Keeps old new → Keeps (prepend_known held old) (prepend_known held new)
held_kept None new held kept = tt
held_kept (Some xs) None held kept = absurd kept
held_kept (Some xs) (Some ys) held kept = ap (λ zs. held ++ zs) kept

pub piece_long : (old shown : Option (List ℕ)) (piece held : List ℕ)
    → IfSome old (λ xs. StartsWith xs piece) → Keeps old shown → BeginsTooLong 65536 (held ++ piece)
    → GivesLongLine (prepend_known held old) (prepend_known held shown)
piece_long old shown piece held starts kept long =
    (gives_nothing (prepend_known held old) (prepend_known held shown) (held_kept old shown held kept), starts_long old piece held starts long)

-- the end after an unfinished line
pub end_line : (old new : Option (List ℕ)) (held : List ℕ) → IfSome old (λ xs. xs ≡ []) → Keeps old new → HasNoLineEnd held → 0 < length held
    → GivesLine (prepend_known held old) (prepend_known [] new) held
end_line old new held over kept run some =
    last held (held_taken old new [] held held [] (Consumes-kept old old new [] (Consumes-nil old) kept) refl) (all_held old held over) ([], refl, tt, run) some

-- nothing is unfinished at the end
pub end_alone : (old new : Option (List ℕ)) (held kept : List ℕ) → IfSome old (λ xs. xs ≡ []) → Keeps old new → held ≡ [] → kept ≡ []
    → GivesEnd (prepend_known held old) (prepend_known kept new)
end_alone old new held kept over keeps none still =
    rw (none, still) ([], Consumes-kept (prepend_known [] old) (prepend_known [] old) (prepend_known [] new) [] (Consumes-nil (prepend_known [] old)) (held_kept old new [] keeps), no_bytes, all_held old [] over)

-- ---- what a piece gives

pub some_of : {X : Type 0} (P : X → Type 0) (found : Option X) (x : X) → found ≡ Some x → IfSome found P → P x
some_of P found x is holds = subst (λ o. IfSome o P) is holds

pub event_gives : (old new : Option (List ℕ)) (line : List ℕ) (event is : Option LineEvent)
    → event ≡ is → PieceGives old new line event → PieceGives old new line is
event_gives old new line event is same gives = subst (λ e. PieceGives old new line e) same gives

-- the cutter's fault stops it
pub cut_stops : (old new : Option (List ℕ)) (fault : LineFault) (answer : Result (Option LineEvent) ReadStop)
    → IsErrAnd answer (λ stop. stop ≡ stop_of fault) → (fault ≡ faults.TooLong → GivesLongLine old new)
    → IfErr answer (PieceStops old new)
cut_stops old new fault (Ok event) is gives = tt
cut_stops old new faults.TooLong (Err stop) is gives = subst (PieceStops old new) (sym is) (gives refl)
cut_stops old new faults.OutOfMemory (Err stop) is gives = subst (PieceStops old new) (sym is) tt

pub begins_long : (c : LineCutting) (piece : List ℕ) → IsReading c → (c.failed ≡ true) ⊎ BeginsTooLong c.limit (c.held ++ piece) → BeginsTooLong 65536 (c.held ++ piece)
begins_long c piece h (inl failed) = absurd cc
begins_long c piece h (inr long) = subst (λ j. BeginsTooLong j (c.held ++ piece)) h.limit long

pub none_over : (old : Option (List ℕ)) (piece : List ℕ) → IfSome old (λ xs. length piece ≡ 0 → xs ≡ []) → length piece ≡ 0 → IfSome old (λ xs. xs ≡ [])
none_over None piece over empty = tt
none_over (Some xs) piece over empty = over empty

pub event_failed : (answer : Result (Option LineEvent) OutOfMemory) (event : Option LineEvent) → answer ≡ Ok (Some Failed) → answer ≡ Ok event → event ≡ None → ⊥
event_failed answer event failed is none = cc

-- ---- why no more is read

-- after a failed read something did
pub stopped_after : (old new : Option ReadStop) → new ≡ stop_after old Failed → is_some new ≡ true
stopped_after None new is = ap is_some is
stopped_after (Some stop) new is = ap is_some is

-- the pieces did not end, so that there was more than the first, and nothing had stopped the reader
pub failed_at_last : (old : Option ReadStop) (pieces : ℕ) → (is_some old ≡ true → pieces ≡ 0) → 0 < pieces → Some stops.Failed ≡ stop_after old Failed
failed_at_last None pieces none more = refl
failed_at_last (Some stop) pieces none more = absurd (omega (arith, none refl, more))
