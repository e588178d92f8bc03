use Rattle.std.proofs.Common.{◌≡◌, ◌⊎◌, inl, inr, ◌==◌, ◌||◌, true, false, not, refl, sym, ap, ◌∙◌}
use Rattle.shogi_board.specs.Moves.{diagonals, orthogonals, gold, steps, to}
use Rattle.shogi_board.specs.Directions.{is_diagonal}
use Rattle.shogi_board.specs.declared.kind.Kind.{Kind}
use Rattle.shogi_board.specs.declared.kind.Kind.TheVariants.{Silver, Gold, King, ProPawn, ProLance, ProKnight, ProSilver}
use Rattle.shogi_board.proofs.Rays.{member}
use Rattle.shogi_board.proofs.kind.Kind.has_step.Goals as goal

like-gold : (k : Kind) → (k ≡ Gold) ⊎ ((k ≡ ProPawn) ⊎ ((k ≡ ProLance) ⊎ ((k ≡ ProKnight) ⊎ (k ≡ ProSilver)))) → steps k ≡ gold
like-gold k (inl e) = rw e refl
like-gold k (inr (inl e)) = rw e refl
like-gold k (inr (inr (inl e))) = rw e refl
like-gold k (inr (inr (inr (inl e)))) = rw e refl
like-gold k (inr (inr (inr (inr e)))) = rw e refl

pub returns-then-leads_forward : goal.returns-then-leads_forward
returns-then-leads_forward c =
    let ranks : (c.args.direction.ranks == 1) ≡ true = sym c.leads_forward.ensures ∙ c.if-leads_forward.true in
    let is : c.leads_forward.result ≡ (c.args.direction.ranks == 1 || is_diagonal c.args.direction) = rw ranks c.if-leads_forward.true in
    rw c.in-Silver.is (member (λ f r. r == 1 || is_diagonal (to f r)) (steps Silver) c.args.direction _ (refl, refl, refl, refl, refl, refl, refl, refl) c.requires is)

pub returns-else-leads_forward : goal.returns-else-leads_forward
returns-else-leads_forward c =
    let ranks : (c.args.direction.ranks == 1) ≡ false = sym c.leads_forward.ensures ∙ c.if-leads_forward.false in
    let is : c.is_diagonal.result ≡ (c.args.direction.ranks == 1 || is_diagonal c.args.direction) = rw ranks c.is_diagonal.ensures in
    rw c.in-Silver.is (member (λ f r. r == 1 || is_diagonal (to f r)) (steps Silver) c.args.direction _ (refl, refl, refl, refl, refl, refl, refl, refl) c.requires is)

pub returns-then-leads_forward-2 : goal.returns-then-leads_forward-2
returns-then-leads_forward-2 c =
    let ranks : (c.args.direction.ranks == 1) ≡ true = sym c.leads_forward-in-Gold.ensures ∙ c.if-leads_forward-2.true in
    let is : c.leads_forward-in-Gold.result ≡ (c.args.direction.ranks == 1 || not (is_diagonal c.args.direction)) = rw ranks c.if-leads_forward-2.true in
    rw (like-gold c.args.self c.in-Gold.is) (member (λ f r. r == 1 || not (is_diagonal (to f r))) gold c.args.direction _ (refl, refl, refl, refl, refl, refl, refl, refl) c.requires is)

pub returns-else-leads_forward-2 : goal.returns-else-leads_forward-2
returns-else-leads_forward-2 c =
    let ranks : (c.args.direction.ranks == 1) ≡ false = sym c.leads_forward-in-Gold.ensures ∙ c.if-leads_forward-2.false in
    let is : not c.is_diagonal-else-leads_forward-2.result ≡ (c.args.direction.ranks == 1 || not (is_diagonal c.args.direction)) = rw ranks (ap not c.is_diagonal-else-leads_forward-2.ensures) in
    rw (like-gold c.args.self c.in-Gold.is) (member (λ f r. r == 1 || not (is_diagonal (to f r))) gold c.args.direction _ (refl, refl, refl, refl, refl, refl, refl, refl) c.requires is)

pub returns-in-Dragon : goal.returns-in-Dragon
returns-in-Dragon c =
    rw c.in-Dragon.is (member (λ f r. is_diagonal (to f r)) diagonals c.args.direction _ (refl, refl, refl, refl, refl, refl, refl, refl) c.requires c.is_diagonal-in-Dragon.ensures)

pub returns-in-Horse : goal.returns-in-Horse
returns-in-Horse c =
    rw c.in-Horse.is (member (λ f r. not (is_diagonal (to f r))) orthogonals c.args.direction _ (refl, refl, refl, refl, refl, refl, refl, refl) c.requires (ap not c.is_diagonal-in-Horse.ensures))

pub returns-in-King : goal.returns-in-King
returns-in-King c =
    rw c.in-King.is (member (λ f r. true) (steps King) c.args.direction true (refl, refl, refl, refl, refl, refl, refl, refl) c.requires refl)
