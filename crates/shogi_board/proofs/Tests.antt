-- What the answer of a test says.
use Rattle.std.proofs.Common.{◌≡◌, Bool, true, false, Option, None, Some, is_some, refl, sym, subst, IsTrue, ◌↔◌, ◌⊎◌, inl, inr}
use Rattle.std.specs.Prelude.{MatchOption}
use Rattle.shogi_board.specs.Cells.{at, piece}
use Rattle.shogi_board.specs.Placed.{Placed}
use Rattle.shogi_board.specs.declared.kind.Kind.{Kind}
use Rattle.shogi_board.specs.declared.square.Square.{Square}
use Rattle.shogi_board.specs.Kinds.{InZone}
use Rattle.shogi_board.specs.Legal.{MayPromote}
use Rattle.shogi_board.specs.declared.moves.Move.TheVariants.{Walk}

pub holds : {P : Type 0} (b : Bool) → IsTrue b ↔ P → b ≡ true → P
holds true d e = d.0 refl
holds false d e = cc

pub fails : {P : Type 0} (b : Bool) → IsTrue b ↔ P → b ≡ false → P → ⊥
fails true d e h = cc
fails false d e h = let yes = d.1 h in cc

pub nothing : {A : Type 0} (found : Option A) (b : Bool) → b ≡ is_some found → b ≡ false → found ≡ None
nothing None b e off = refl
nothing (Some x) b e off = cc

pub unmet : (P : Kind → Type 0) (found : Option Kind) (b : Bool) → b ≡ is_some found → b ≡ false → MatchOption found ((k : Kind) → P k → ⊥) P → (k : Kind) → P k → ⊥
unmet P None b e off h = h
unmet P (Some k) b e off h = cc

pub promotes : (p : Placed) (from to : Square) (was kind : Kind) → at p.material.board from ≡ piece p.side was → (kind ≡ was) ⊎ InZone p.side from ⊎ InZone p.side to → MayPromote p (Walk from to kind)
promotes p from to was k own (inl e) = inl (subst (λ (x : Kind). at p.material.board from ≡ piece p.side x) (sym e) own)
promotes p from to was k own (inr zone) = inr zone
