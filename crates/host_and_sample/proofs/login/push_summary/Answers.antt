use Rattle.std.proofs.Common.{List, ℕ, codes, decimal, ◌∷◌, ◌++◌, []}
use Rattle.csa_text.specs.Codes.{sign}
use Rattle.shogi_board.specs.declared.color.Color.TheVariants.{Black, White}
use Rattle.host_and_sample.specs.Host.{name_for}
use Rattle.host_and_sample.proofs.HostLines.{on_ok, four_texts}
use Rattle.host_and_sample.proofs.login.push_summary.Goals as goal

pub returns : goal.returns
returns c =
    let config = c.args.config.now in
    let name = c.args.name.now in
    let head : List (List ℕ) = codes "BEGIN Game_Summary" ∷ (codes "Game_ID:" ++ config.id.bytes) ∷ [] in
    let names : List (List ℕ) = (codes "Name+:" ++ name_for config name Black) ∷ (codes "Name-:" ++ name_for config name White) ∷ [] in
    let turn : List (List ℕ) =
    (codes "Your_Turn:" ++ sign config.client ∷ []) ∷ codes "To_Move:+" ∷ (codes "Max_Moves:" ++ decimal config.max_moves) ∷ [] in
    let position : List (List ℕ) =
    codes "BEGIN Position" ∷ codes "PI" ∷ codes "+" ∷ codes "END Position" ∷ codes "END Game_Summary" ∷ [] in
    on_ok c.push_position.result _ _ _ c.push_position.ensures
    (rw (c.in_ok-push_turn.ensures, c.in_ok-push_names.ensures, c.in_ok-push_head.ensures)
    (four_texts c.args.lines.now head names turn position))
