-- Rows for three lines of a server and one of an engine.
use Rattle.std.proofs.Common.{◌≡◌, ℕ, zero, suc, ◌+◌, subst, inl, inr, Bool, true, false, [], ◌∷◌, Option, Some, None, codes, arith, refl, sym, ap, lit≤, get_or}
use Rattle.std.specs.Prelude.{not, ◌&&◌}
use Rattle.std.specs.List.{list_all}
use Rattle.shogi_board.specs.declared.color.Color.{Color}
use Rattle.shogi_board.specs.declared.color.Color.TheVariants.{Black, White}
use Rattle.shogi_board.specs.declared.kind.Kind.TheVariants.{Pawn}
use Rattle.shogi_board.specs.declared.kind.Piece.{Piece}
use Rattle.shogi_board.specs.declared.square.Square.{Square}
use Rattle.shogi_board.specs.Cells.{Cells, at}
use Rattle.shogi_board.specs.Pieces.{is_king}
use Rattle.shogi_board.specs.Reach.{InCheck}
use Rattle.shogi_board.specs.Squares.{place}
use Rattle.shogi_rules.proofs.Alone.{not-over-alone}
use Rattle.shogi_board.specs.declared.rule.Rule.TheVariants.{WrongSide}
use Rattle.shogi_board.specs.After.{after}
use Rattle.shogi_board.specs.Legal.{ReachesTarget, KingSafe, Legal}
use Rattle.shogi_rules.specs.Play.{Answers}
use Rattle.usi_text.proofs.OneMove.{same_square}
use Rattle.record_game.specs.declared.fault.Why.TheVariants as causes
use Rattle.record_game.specs.Game.{Timed}
use Rattle.bridge_table.specs.declared.config.Config.{Config}
use Rattle.bridge_table.specs.declared.fault.MoveCause.TheVariants.{Refused, Unsent}
use Rattle.bridge_table.specs.declared.fault.SessionFault.TheVariants.{BadServerMove}
use Rattle.bridge_table.specs.Asking.{not_asked}
use Rattle.bridge_table.specs.Events.{engine_line, server_line, server, no_lines}
use Rattle.bridge_table.specs.Examples.{pawn_start, pawn_match, pawn_step, ready, thinking}
use Rattle.bridge_table.specs.Row.{Row, in_table, failed, Judged, breaks}
use Rattle.bridge_table.specs.Row as row
use Rattle.session_lines.specs.ServerLines.{TellsTimed}
use Rattle.bridge_table.specs.declared.state.Answer.TheVariants.{Move as move}
use Rattle.bridge_table.specs.State.{playing, sent, match_line, with_move}

abbrev pub from : Square
from = record { file = 7; rank = 7; on_board = (lit≤ tt, lit≤ tt, lit≤ tt, lit≤ tt) }

abbrev pub to : Square
to = record { file = 7; rank = 6; on_board = (lit≤ tt, lit≤ tt, lit≤ tt, lit≤ tt) }

abbrev far : Square
far = record { file = 3; rank = 3; on_board = (lit≤ tt, lit≤ tt, lit≤ tt, lit≤ tt) }

abbrev near : Square
near = record { file = 3; rank = 4; on_board = (lit≤ tt, lit≤ tt, lit≤ tt, lit≤ tt) }

abbrev pub opening : Timed
opening = pawn_step from to

-- 1. the lines
stated : TellsTimed (codes "+7776FU") Black opening
stated = (
  (record { offset = 0; bytes = codes "+7776FU" }) ∷ [],
  record {
    units = (record { offset = 0; bytes = codes "+7776FU" }) ∷ [];
    cut = ([], record { gap = []; whole = refl; separators = tt; place = refl; unit = (refl, (refl, (refl, (refl, (refl, (refl, (refl, tt)))))), tt) }, tt);
    kept = refl;
  },
  ((omega arith, refl), tt),
)

stated_white : TellsTimed (codes "-3334FU") White (pawn_step far near)
stated_white = (
  (record { offset = 0; bytes = codes "-3334FU" }) ∷ [],
  record {
    units = (record { offset = 0; bytes = codes "-3334FU" }) ∷ [];
    cut = ([], record { gap = []; whole = refl; separators = tt; place = refl; unit = (refl, (refl, (refl, (refl, (refl, (refl, (refl, tt)))))), tt) }, tt);
    kept = refl;
  },
  ((omega arith, refl), tt),
)

-- 2. the pawn's step is legal
no_king : Option Piece → Bool
no_king None = true
no_king (Some p) = not (is_king p.kind)

left_of : (a b : Bool) → (a && b) ≡ true → a ≡ true
left_of true b h = refl
left_of false b h = h

right_of : (a b : Bool) → (a && b) ≡ true → b ≡ true
right_of true b h = h
right_of false true h = refl
right_of false false h = h

none_at : (cells : Cells) (n : ℕ) → list_all no_king cells ≡ true → no_king (get_or cells n None) ≡ true
unfolding no_king
none_at [] n h = refl
none_at (x ∷ xs) zero h = left_of (no_king x) (list_all no_king xs) h
none_at (x ∷ xs) (suc n) h = none_at xs n (right_of (no_king x) (list_all no_king xs) h)

no_check : (cells : Cells) (color : Color) → list_all no_king cells ≡ true → InCheck cells color → ⊥
unfolding no_king
no_check cells color h check =
    let a : no_king (at cells check.0) ≡ true = none_at cells (place check.0) h in
    let b : no_king (at cells check.0) ≡ false = ap no_king check.1 in
    cc

pub start_safe : (color : Color) → InCheck pawn_start.material.board color → ⊥
unfolding no_king
start_safe color = no_check pawn_start.material.board color refl

reaches : ReachesTarget pawn_start opening.move
reaches = record { mover = record { color = Black; kind = Pawn }; stands = refl; moves = inl (0, _, omega arith, refl, (refl, refl)) }

safe : KingSafe pawn_start opening.move
unfolding no_king
safe = no_check (after pawn_start opening.move).material.board Black refl

pub legal : Answers (match_line pawn_match) Black opening.move None
legal = (omega arith, inr (refl, inr (not-over-alone pawn_start, inr ((Pawn, refl), inr ((Pawn, refl, inl refl), inr ((λ own e. absurd (let f = e in cc)), inr (reaches, inr (inl refl, inr (omega arith, inr (tt, inr (safe, inr ((λ d. absurd d), refl))))))))))))

keeps : Legal pawn_start opening.move
keeps = record {
  keeps = record {
    fits = record {
      has_piece = (Pawn, refl);
      kind_fits = (Pawn, refl, inl refl);
      target_free = λ own e. absurd (let f = e in cc);
      reaches = reaches;
      may_promote = inl refl;
      further_move = omega arith;
      lone_pawn = tt;
    };
    king_safe = safe;
  };
  no_drop_mate = λ d. absurd d;
}

-- 3. rows
pub answers : (c : Config) → Row c (thinking (playing pawn_match)) (engine_line (codes "bestmove 7g7f")) (server (codes "+7776FU")) (ready (sent pawn_match (move opening.move)))
answers c = in_table (
  refl,
  row.engine_moves pawn_match (codes "bestmove 7g7f") (codes "7g7f") opening.move refl refl refl (record { first = refl; second = refl })
      (record { word_is = (record { color = Black; kind = Pawn }, refl, inl (refl, refl)); legal = keeps }) refl refl,
)

judged : Judged pawn_match (codes "+7776FU") Black opening None
judged = record { stated = stated; answers = legal }

pub plays : (c : Config) → Row c (ready (sent pawn_match (move opening.move))) (server_line (codes "+7776FU")) no_lines (ready (playing (with_move pawn_match opening)))
plays c = in_table (
  refl,
  row.move_confirmed _ (codes "+7776FU") Black opening [] _ refl refl refl judged (λ own. refl)
      (not_asked (λ may. let e = may.to_move in absurd (let f : White ≡ Black = e in cc)) refl refl) refl refl,
)

pub not_sent : (c : Config) → Row c (ready (playing pawn_match)) (server_line (codes "+7776FU")) no_lines (failed (ready (playing pawn_match)) (BadServerMove Unsent))
not_sent c = in_table (refl, row.move_unsent _ (codes "+7776FU") Black opening refl refl refl judged (λ own. let e = own refl in absurd (let f = e in cc)) refl refl)

pub wrong_side : (c : Config) → Row c (ready (playing pawn_match)) (server_line (codes "-3334FU")) no_lines (failed (ready (playing pawn_match)) (BadServerMove (Refused (causes.Rule WrongSide))))
wrong_side c = in_table (
  refl,
  row.move_refused _ (codes "-3334FU") (causes.Rule WrongSide) refl refl refl
      (breaks White (pawn_step far near) WrongSide (record { stated = stated_white; answers = (omega arith, inl ((λ e. let f : White ≡ Black = e in cc), refl)) }) refl) refl refl,
)

pub plays_for : (c : Config) (a b : Square) → a.file ≡ 7 → a.rank ≡ 7 → b.file ≡ 7 → b.rank ≡ 6
    → Row c (ready (sent pawn_match (move (pawn_step a b).move))) (server_line (codes "+7776FU")) no_lines (ready (playing (with_move pawn_match (pawn_step a b))))
plays_for c a b p q r s =
    let first : a ≡ from = same_square a from (ap (λ n. 48 + n) p) (ap (λ n. 96 + n) q) in
    let next : b ≡ to = same_square b to (ap (λ n. 48 + n) r) (ap (λ n. 96 + n) s) in
    subst (λ x. Row c (ready (sent pawn_match (move (pawn_step x b).move))) (server_line (codes "+7776FU")) no_lines (ready (playing (with_move pawn_match (pawn_step x b))))) (sym first)
    (subst (λ x. Row c (ready (sent pawn_match (move (pawn_step from x).move))) (server_line (codes "+7776FU")) no_lines (ready (playing (with_move pawn_match (pawn_step from x))))) (sym next) (plays c))

pub answers_for : (c : Config) (a b : Square) → a.file ≡ 7 → a.rank ≡ 7 → b.file ≡ 7 → b.rank ≡ 6
    → Row c (thinking (playing pawn_match)) (engine_line (codes "bestmove 7g7f")) (server (codes "+7776FU")) (ready (sent pawn_match (move (pawn_step a b).move)))
answers_for c a b p q r s =
    let first : a ≡ from = same_square a from (ap (λ n. 48 + n) p) (ap (λ n. 96 + n) q) in
    let next : b ≡ to = same_square b to (ap (λ n. 48 + n) r) (ap (λ n. 96 + n) s) in
    subst (λ x. Row c (thinking (playing pawn_match)) (engine_line (codes "bestmove 7g7f")) (server (codes "+7776FU")) (ready (sent pawn_match (move (pawn_step x b).move)))) (sym first)
    (subst (λ x. Row c (thinking (playing pawn_match)) (engine_line (codes "bestmove 7g7f")) (server (codes "+7776FU")) (ready (sent pawn_match (move (pawn_step from x).move)))) (sym next) (answers c))
