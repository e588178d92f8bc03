-- What a cutter of pieces holds after a step.
use Rattle.std.proofs.Common.{◌≡◌, ℕ, zero, suc, ◌<◌, ◌≤◌, false, List, [], ◌++◌, length, take, Option, Some, None, MatchOption, IfSome, if◌then◌else◌, arith, refl, ap, ◌∙◌, ◌+◌, IsSome}
use Rattle.std.proofs.lemmas.Bool.{false≢true}
use Rattle.csa_cutting.specs.Cut.{begins_with, byte_order_mark, statement_bytes}
use Rattle.csa_cutting.specs.PieceCutting.{PieceCutting, held_of}
use Rattle.csa_cutting.specs.Places.{IsFoundIn, begins, open_of}
use Rattle.csa_cutting.specs.PieceSteps.{HoldsAfter, IsUsed}
use Rattle.csa_cutting.specs.declared.piece.Cut.{Cut}
use Rattle.csa_cutting.specs.declared.cutter.Statement.{Statement}
use Rattle.csa_cutting.specs.declared.units.Place.{Place}
use Rattle.csa_cutting.specs.declared.units.Found.TheVariants.{LeadsTo}
use Rattle.csa_cutting.specs.declared.units.Place.TheVariants.{Mark, Gap, Unit as InUnit, Comment}

mark_quiet : (k : ℕ) → begins_with 39 (take k byte_order_mark) ≡ false
mark_quiet zero = refl
mark_quiet (suc k) = refl

used_by : (P Q : Type 0) (statement : Option Statement) → IsSome statement → Q → MatchOption statement P (λ s. Q)
used_by P Q None some q = absurd (false≢true some)
used_by P Q (Some s) some q = q

pub held_whole : (unfinished : List ℕ) → begins_with 39 unfinished ≡ false → unfinished ≡ held_of unfinished
held_whole unfinished quiet = rw quiet refl

pub held_found : (place after : Place) (held other piece : List ℕ) → other ≡ (if begins after then held ++ piece else []) → IsFoundIn place held piece 0 (LeadsTo after) → other ≡ held_of (open_of after other)
held_found place Mark held other piece o h =
    let whole : other ≡ take (length held + length piece) byte_order_mark = o ∙ h.2 in
    held_whole other (ap (begins_with 39) whole ∙ mark_quiet (length held + length piece))
held_found place Gap held other piece o h = o
held_found place InUnit held other piece o h = absurd h
held_found place Comment held other piece o h = o

pub holds_here : (old new : PieceCutting) (statement : Option Statement) (n offset : ℕ) → new.held ≡ [] → old.fed ≤ offset → IfSome statement (λ s. (s.number ≡ n) × (s.offset ≡ offset)) → IsSome statement → HoldsAfter old statement new
holds_here old new None n offset none order stated some = absurd (false≢true some)
holds_here old new (Some s) n offset none order stated some = (λ _. none, λ before. absurd (omega (arith, stated.1, order, before)))

pub holds_before : (old new : PieceCutting) (statement : Option Statement) (n offset : ℕ) (unit : List ℕ) → unit ≡ new.held → offset < old.fed → IfSome statement (λ s. (s.number ≡ n) × (s.offset ≡ offset)) → IfSome statement (λ s. s.bytes.now ≡ statement_bytes unit) → IsSome statement → HoldsAfter old statement new
holds_before old new None n offset unit is order stated bytes some = absurd (false≢true some)
holds_before old new (Some s) n offset unit is order stated bytes some = (λ here. absurd (omega (arith, stated.1, order, here)), λ _. bytes ∙ ap statement_bytes is)

pub some_used : (piece : List ℕ) (cut : Cut) → IsSome cut.statement → 0 < cut.used → cut.used ≤ length piece → IsUsed piece cut
some_used piece cut some more within = used_by (cut.used ≡ length piece) ((0 < cut.used) × (cut.used ≤ length piece)) cut.statement some (more, within)

pub number_of : (statement : Option Statement) (offset n m : ℕ) → IfSome statement (λ s. (s.number ≡ n) × (s.offset ≡ offset)) → n ≡ m → IfSome statement (λ s. s.number ≡ m)
number_of None offset n m stated same = tt
number_of (Some s) offset n m stated same = stated.0 ∙ same
