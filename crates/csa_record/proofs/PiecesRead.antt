-- The pieces of a source that have been fed, and those that have not.
use Rattle.std.proofs.Common.{◌≡◌, ◌≢◌, ℕ, ◌+◌, ◌<◌, ◌≤◌, Result, Ok, Err, IfOk, IfErr, List, [], ◌∷◌, ◌++◌, length, take, drop, get_or, refl, sym, ap, subst, ◌∙◌, append-nil, append_assoc, length-append, take-append-drop, arith}
use Rattle.std.proofs.lemmas.List.{take_more}
use Rattle.std.specs.Borrow.{Bor}
use Rattle.record_game.specs.declared.fault.Refusal.{Refusal}
use Rattle.record_game.specs.declared.fault.Why.TheVariants.{OutOfMemory}
use Rattle.record_game.specs.Game.{Game}
use Rattle.record_game.specs.Pieces.{joined, ReadsPieces, accepted, refused_at_end}
use Rattle.record_game.specs.Refused.{Refused, FaultlessTo}
use Rattle.record_game.specs.Tells.{Tells}
use Rattle.record_game.proofs.Cuttings.{joined_both, joined_at}
use Rattle.csa_record.specs.RecordReading.{RecordReading, HasRead, bytes_of, fed_by, fed_of}

abbrev pub Piece : Type 0
Piece = Bor (List ℕ)

abbrev pub no_piece : Piece
no_piece = record { ref_ptr = (0, 0); now = [] }

bytes_both : (xs ys : List Piece) → bytes_of (xs ++ ys) ≡ bytes_of xs ++ bytes_of ys
bytes_both [] ys = refl
bytes_both (x ∷ xs) ys = ap (λ zs. x.now ∷ zs) (bytes_both xs ys)

-- the bytes of the pieces up to one more
pub one_more : (ps : List Piece) (i : ℕ) (d : Piece) → i < length ps
    → joined (bytes_of (take (i + 1) ps)) ≡ joined (bytes_of (take i ps)) ++ (get_or ps i d).now
one_more ps i d within =
    ap (λ qs. joined (bytes_of qs)) (take_more ps i d within)
    ∙ (ap joined (bytes_both (take i ps) (get_or ps i d ∷ []))
    ∙ (joined_both (bytes_of (take i ps)) ((get_or ps i d).now ∷ [])
    ∙ ap (λ zs. joined (bytes_of (take i ps)) ++ zs) (append-nil (get_or ps i d).now)))

-- the pieces are those before one, that one, and the others
pub around : (ps : List Piece) (i : ℕ) (d : Piece) → i < length ps
    → bytes_of ps ≡ bytes_of (take i ps) ++ (get_or ps i d).now ∷ bytes_of (drop (i + 1) ps)
around ps i d within =
    ap bytes_of (sym (take-append-drop (i + 1) ps))
    ∙ (bytes_both (take (i + 1) ps) (drop (i + 1) ps)
    ∙ (ap (λ xs. xs ++ bytes_of (drop (i + 1) ps)) (ap bytes_of (take_more ps i d within) ∙ bytes_both (take i ps) (get_or ps i d ∷ []))
    ∙ append_assoc (bytes_of (take i ps)) ((get_or ps i d).now ∷ []) (bytes_of (drop (i + 1) ps))))

-- the next piece is not longer than what is left of all
pub has_room : (ps : List Piece) (i : ℕ) (d : Piece) → i < length ps
    → length (joined (bytes_of (take i ps))) + length (get_or ps i d).now ≤ length (joined (bytes_of ps))
has_room ps i d within =
    let front = joined (bytes_of (take i ps)) in
    let piece = (get_or ps i d).now in
    let rest = joined (bytes_of (drop (i + 1) ps)) in
    let whole : joined (bytes_of ps) ≡ (front ++ piece) ++ rest =
    ap joined (around ps i d within) ∙ joined_at (bytes_of (take i ps)) piece (bytes_of (drop (i + 1) ps)) in
    let count = ap length whole in
    let all = length-append (front ++ piece) rest in
    let two = length-append front piece in
    omega (arith, count, all, two)

-- a reader counts the bytes that it has read
pub fed_count : (source : List ℕ) (r : RecordReading) → HasRead source r → fed_of r ≡ length source
fed_count source r h =
    let took : r.cutter.fed ≡ 0 + length source = h.taken.cut.0.took in
    let fed : r.cutter.fed ≡ length source = omega (arith, took) in
    subst (λ f. fed_by r.cutter f ≡ length source) (sym h.going) fed

-- what holds of the bytes so far, whatever follows, holds of all
pub of_all : (P : List ℕ → Type 0) (ps : List Piece) (i : ℕ) (d : Piece) → i < length ps
    → ((more : List ℕ) → P ((joined (bytes_of (take i ps)) ++ (get_or ps i d).now) ++ more)) → P (joined (bytes_of ps))
of_all P ps i d within holds =
    let rest = bytes_of (drop (i + 1) ps) in
    let whole : joined (bytes_of ps) ≡ (joined (bytes_of (take i ps)) ++ (get_or ps i d).now) ++ joined rest =
    ap joined (around ps i d within) ∙ joined_at (bytes_of (take i ps)) (get_or ps i d).now rest in
    subst P (sym whole) (holds (joined rest))

pub accepted_so : (pieces : List (List ℕ)) (source : List ℕ) (read : Result Game Refusal) → source ≡ joined pieces
    → IfOk read (λ g. Tells source g) → IfOk read (λ g. ReadsPieces pieces (Ok g))
accepted_so pieces source (Ok g) is stated = accepted g (subst (λ s. Tells s g) is stated)
accepted_so pieces source (Err r) is stated = tt

pub refused_so : (pieces : List (List ℕ)) (source : List ℕ) (read : Result Game Refusal) → source ≡ joined pieces
    → IfErr read (λ r. r.why ≢ OutOfMemory → Refused source r.number r.offset r.why)
    → IfErr read (λ r. r.why ≢ OutOfMemory → ReadsPieces pieces (Err r))
refused_so pieces source (Ok g) is none = tt
refused_so pieces source (Err r) is at_end = λ other.
    refused_at_end r (subst (λ s. Refused s r.number r.offset r.why) is (at_end other))

pub faultless_so : (source whole : List ℕ) (read : Result Game Refusal) → source ≡ whole
    → IfErr read (λ r. r.why ≡ OutOfMemory → FaultlessTo source r.number r.offset)
    → IfErr read (λ r. r.why ≡ OutOfMemory → FaultlessTo whole r.number r.offset)
faultless_so source whole (Ok g) is none = tt
faultless_so source whole (Err r) is at_end = λ lack. subst (λ s. FaultlessTo s r.number r.offset) is (at_end lack)
