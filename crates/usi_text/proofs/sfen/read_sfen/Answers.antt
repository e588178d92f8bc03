use Rattle.std.proofs.Common.{rules, ◌≡◌, Result, Ok, Err, Some, refl, ap, subst, sym}
use Rattle.shogi_board.specs.Layout.{Layout}
use Rattle.shogi_board.specs.Placed.{Placed}
use Rattle.shogi_board.specs.declared.color.Color.{Color}
use Rattle.shogi_board.specs.declared.setup.SetupFault.{SetupFault}
use Rattle.usi_text.specs.Setting.{Finishes, set_up}
use Rattle.usi_text.proofs.sfen.read_sfen.Goals as goal

pub returns-then-not-is_hands : goal.returns-then-not-is_hands
returns-then-not-is_hands c = search rules

finished-side : (r : Result Layout SetupFault) (side : Color) (p : Placed) → Finishes r side (Ok p) → side ≡ p.side
finished-side (Ok s) side p h = sym (ap (λ (q : Placed). q.side) h.1)
finished-side (Err fault) side p h = cc

pub returns : goal.returns
returns c =
    let hands = c.if-not-is_hands.ensures in
    let finishes = rw c.as_slice.ensures.value at ((c.in_ok-set_up_position.ensures {u = tt}) hands.0 hands.1) in
    let some : c.read_board.result ≡ Some c.in_ok-cells.cells = search rules in
    let side = finished-side _ _ _ finishes in
    record {
      stated = record {
        cells = c.in_ok-cells.cells.items;
        piles = hands.0;
        shape = record {
          board = rw (← c.sfen_words-words.ensures.board) (rw some at c.read_board.ensures.cells);
          turn = rw (← c.sfen_words-words.ensures.side, ← side) (search rules);
          hands = rw (← c.sfen_words-words.ensures.hands) hands.1;
          number = rw (← c.sfen_words-words.ensures.number, ← c.sfen_words-words.ensures.fifth) (c.if-not-is_number.ensures.0 refl);
        };
        stands = subst (λ (s : Color). Finishes (set_up c.in_ok-cells.cells.items hands.0) s (Ok c.in_ok-set_up_position.field-0)) side finishes;
      };
    }
