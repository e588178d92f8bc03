-- The parts of the canonical text, one after another.
use Rattle.std.proofs.Common.{◌≡◌, ℕ, List, ◌∷◌, ◌++◌, map, sym, ap, ◌∙◌, append_assoc}
use Rattle.std.specs.List.{flat_map}
use Rattle.shogi_board.specs.declared.color.Color.{Color}
use Rattle.shogi_board.specs.declared.color.Color.TheVariants.{Black, White}
use Rattle.shogi_board.specs.Placed.{Placed}
use Rattle.shogi_rules.specs.Positions.{Played}
use Rattle.csa_text.specs.Saying.{Saying, version, turn}
use Rattle.record_game.specs.Canon.{name_items, header_item, start_items, canon_items, ended_line, canon}
use Rattle.record_game.specs.Building.{course_of}
use Rattle.record_game.specs.Course.{Course}
use Rattle.record_game.specs.Game.{Game, move_of}
use Rattle.record_game.specs.Says.{move_items, ending_items, played_items}
use Rattle.record_game.proofs.ByRanks.{flat_joined}

-- the version, the names and the headers
abbrev pub titles : Game → List Saying
titles g = version ∷ (name_items Black g.black ++ (name_items White g.white ++ map header_item g.headers))

abbrev following : Game → List Saying
following g = start_items g.start ++ turn g.start.side ∷ played_items g

items : (g : Game) → canon_items g ≡ titles g ++ following g
items g =
    ap (λ ss. version ∷ ss) (sym (append_assoc (name_items Black g.black) (name_items White g.white ++ map header_item g.headers) (following g)
    ∙ ap (λ ss. name_items Black g.black ++ ss) (append_assoc (name_items White g.white) (map header_item g.headers) (following g))))

canon_parts : (g : Game) → canon g ≡ flat_map ended_line (titles g) ++ (flat_map ended_line (start_items g.start) ++ (ended_line (turn g.start.side) ++ flat_map ended_line (played_items g)))
canon_parts g =
    ap (flat_map ended_line) (items g)
    ∙ (flat_joined ended_line (titles g) (following g)
    ∙ ap (λ bs. flat_map ended_line (titles g) ++ bs) (flat_joined ended_line (start_items g.start) (turn g.start.side ∷ played_items g)))

four : (old h s t p a b c d : List ℕ) → a ≡ old ++ h → b ≡ a ++ s → c ≡ b ++ t → d ≡ c ++ p → d ≡ old ++ (h ++ (s ++ (t ++ p)))
four old h s t p a b c d first second third fourth =
    fourth ∙ (ap (λ bs. bs ++ p) (third ∙ ap (λ bs. bs ++ t) (second ∙ ap (λ bs. bs ++ s) first))
    ∙ (append_assoc ((old ++ h) ++ s) t p ∙ (append_assoc (old ++ h) s (t ++ p) ∙ append_assoc old h (s ++ (t ++ p)))))

pub lines_written : (g : Game) (line : Played) (start : Placed) (side : Color) (course : Course) (old a b c d : List ℕ)
    → line ≡ record { start = g.start; moves = map move_of g.moves } → start ≡ line.start → side ≡ start.side → course ≡ course_of g
    → a ≡ old ++ flat_map ended_line (titles g) → b ≡ a ++ flat_map ended_line (start_items start) → c ≡ b ++ ended_line (turn side)
    → d ≡ c ++ flat_map ended_line (move_items course.start.side course.moves ++ ending_items course.ending) → d ≡ old ++ canon g
lines_written g line start side course old a b c d lined started sided coursed first second third fourth =
    let from : start ≡ g.start = started ∙ ap (λ (l : Played). l.start) lined in
    let first_side : side ≡ g.start.side = sided ∙ ap (λ (p : Placed). p.side) from in
    four old (flat_map ended_line (titles g)) (flat_map ended_line (start_items g.start)) (ended_line (turn g.start.side)) (flat_map ended_line (played_items g))
    a b c d first
    (second ∙ ap (λ (p : Placed). a ++ flat_map ended_line (start_items p)) from)
    (third ∙ ap (λ (s : Color). b ++ ended_line (turn s)) first_side)
    (fourth ∙ ap (λ (k : Course). c ++ flat_map ended_line (move_items k.start.side k.moves ++ ending_items k.ending)) coursed)
    ∙ ap (λ bs. old ++ bs) (sym (canon_parts g))
