-- A port in decimal.
use Rattle.std.proofs.Common.{◌≡◌, ◌∙◌, ◌<◌, ◌^◌, ℕ, true, not, List, Result, Ok, Err, ap, sym, subst, arith}
use Rattle.std.proofs.lemmas.Fmt.{IsAscii-decimal, parse-decimal}
use Rattle.std.proofs.lemmas.Slice.Eq.{bytes_eq-Decides}
use Rattle.std.proofs.lemmas.Str.{IsUtf8-from_ascii}
use Rattle.std.specs.Fmt.{decimal}
use Rattle.std.specs.Str.{IsUtf8, bytes_eq}
use Rattle.std.specs.Str.Parse.{ParsesUnsigned}
use Rattle.session_setup.specs.Ports.{IsPort}

-- the digits of a port are a text
pub port_is_text : (port : ℕ) (digits : List ℕ) → IsPort port → digits ≡ decimal port → ¬ (IsUtf8 digits) → ⊥
port_is_text port digits is same none =
    let small : port < 2 ^ 64 = omega (arith, is.1) in
    none (subst IsUtf8 (sym same) (IsUtf8-from_ascii (decimal port) (IsAscii-decimal port small)))

-- and are read as that port
pub port_is_read : {E : Type 0} (port : ℕ) (digits text : List ℕ) (read : Result ℕ E) → IsPort port → digits ≡ decimal port → text ≡ digits
    → ParsesUnsigned 16 10 text read → read ≡ Ok port
port_is_read port digits text read is same at parsed = parse-decimal 16 port text read (omega (arith, is.1)) (omega (arith, is.1)) (at ∙ same) parsed

pub not_unread : {E : Type 0} (port : ℕ) (digits text : List ℕ) (read : Result ℕ E) (e : E) → read ≡ Err e → IsPort port → digits ≡ decimal port → text ≡ digits
    → ParsesUnsigned 16 10 text read → ⊥
not_unread port digits text read e none is same at parsed =
    let some = port_is_read port digits text read is same at parsed in
    absurd cc

same_number : {E : Type 0} (n m : ℕ) (read : Result ℕ E) → read ≡ Ok n → read ≡ Ok m → n ≡ m
same_number n m read one other = cc

pub read_same : {E : Type 0} (port : ℕ) (digits text : List ℕ) (read : Result ℕ E) (n : ℕ) → read ≡ Ok n → IsPort port → digits ≡ decimal port → text ≡ digits
    → ParsesUnsigned 16 10 text read → n ≡ port
read_same port digits text read n given is same at parsed = same_number n port read given (port_is_read port digits text read is same at parsed)

pub not_zero : (port n : ℕ) → IsPort port → n ≡ port → n ≡ 0 → ⊥
not_zero port n is same zero = absurd (omega (arith, is.0, same, zero))

-- and it is written so again
pub written_so : (port : ℕ) (digits text found : List ℕ) (n : ℕ) → n ≡ port → digits ≡ decimal port → text ≡ digits → found ≡ decimal n → found ≡ text
written_so port digits text found n is same at given = given ∙ ap decimal is ∙ sym same ∙ sym at

pub not_other : (found text : List ℕ) → true ≡ not (bytes_eq found text) → found ≡ text → ⊥
not_other found text other same =
    let is : bytes_eq found text ≡ true = (bytes_eq-Decides found text).1 same in
    absurd cc
