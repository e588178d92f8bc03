-- What a position statement adds to what is laid out.
use Rattle.std.proofs.Common.{◌≡◌, ◌≢◌, ℕ, ◌-◌, ◌≤◌, ◌==◌, ◌||◌, Bool, true, false, List, [], ◌∷◌, ◌++◌, length, filter, get_or, set, Option, Some, None, Ok, Err, refl, sym, ap, ◌∙◌, subst, arith, inl, inr}
use Rattle.std.specs.List.{filter_map, cons_option}
use Rattle.std.specs.Option.{option_to_list}
use Rattle.std.proofs.lemmas.Bool.{cases_Bool, eqb-true, eqb-false}
use Rattle.std.proofs.lemmas.Grind.{flat_map-append}
use Rattle.std.proofs.lemmas.List.{append-nil, get_or-set_same, get_or-set_other}
use Rattle.std.proofs.lemmas.List.Elements.{filter_map-append, filter-append}
use Rattle.shogi_board.specs.declared.color.Color.{Color}
use Rattle.shogi_board.specs.declared.kind.Piece.{Piece}
use Rattle.shogi_board.specs.declared.setup.SetupFault.{SetupFault}
use Rattle.shogi_board.specs.Cells.{even_cells, no_cells}
use Rattle.shogi_board.specs.Layout.{Layout}
use Rattle.shogi_board.specs.Setup.{empty_layout}
use Rattle.csa_text.specs.declared.pair.Pair.{Pair}
use Rattle.csa_text.specs.Saying.{Saying, version, name, header, even, rank, pieces, turn, walked, time, ending}
use Rattle.record_game.specs.declared.fault.OrderFault.TheVariants.{MixedStart}
use Rattle.record_game.specs.declared.fault.Why.{Why}
use Rattle.record_game.specs.declared.fault.Why.TheVariants.{Order, Start}
use Rattle.record_game.specs.Items.{is_even, is_position, positions, rank_given, ranks, sides}
use Rattle.record_game.specs.Laying.{Laid, Lays}
use Rattle.record_game.specs.Taking.{LaidOrRefused}
use Rattle.record_game.specs.Order.{stands, endings, order_fault}
use Rattle.shogi_board.specs.Placing.{place_all, board_alone}
use Rattle.record_game.specs.LaidOut.{laid_out}
use Rattle.record_game.specs.Placings.{placings_of, placings}
use Rattle.record_game.specs.Refused.{start_why, AnswersInOrder, AnswersAfter}
use Rattle.record_game.specs.Union.{first_board}
use Rattle.record_game.proofs.LayingPlaced.{placed_on}

-- where this item's pieces are placed: on what is laid out or, for the first item, on its own first
-- board
abbrev pub begins : Bool → Layout → Saying → Layout
begins true s item = s
begins false s item = board_alone (first_board (item ∷ []))

stands_both : {X : Type 0} (xs ys : List X) → stands (xs ++ ys) ≡ (stands xs || stands ys)
stands_both [] ys = refl
stands_both (x ∷ xs) ys = refl

more_positions : (before : List Saying) (s : Saying) → is_position s ≡ true → positions (before ++ s ∷ []) ≡ positions before ++ s ∷ []
more_positions before s h = filter-append is_position before (s ∷ []) ∙ ap (λ xs. positions before ++ xs) (one s h)
  where
    one : (s : Saying) → is_position s ≡ true → filter is_position (s ∷ []) ≡ s ∷ []
    one s h = rw h refl

laid_from : (ss : List Saying) (s : Saying) (t : Layout) → place_all (board_alone (first_board ss)) (placings ss) ≡ Ok t → place_all (board_alone (first_board (ss ++ s ∷ []))) (placings (ss ++ s ∷ [])) ≡ place_all (begins (stands ss) t s) (placings_of s)
laid_from [] s t h = ap (place_all (board_alone (first_board (s ∷ [])))) (append-nil (placings_of s))
laid_from (r ∷ ss) s t h =
    ap (place_all (board_alone (first_board (r ∷ ss)))) (flat_map-append placings_of (r ∷ ss) (s ∷ []))
    ∙ (ap (λ ps. place_all (board_alone (first_board (r ∷ ss))) (placings (r ∷ ss) ++ ps)) (append-nil (placings_of s))
    ∙ placed_on (board_alone (first_board (r ∷ ss))) t (placings (r ∷ ss)) (placings_of s) h)

pub laid_more : (before : List Saying) (l : Laid) (s : Saying) → Lays before l → is_position s ≡ true → laid_out (before ++ s ∷ []) ≡ place_all (begins l.positioned l.layout s) (placings_of s)
laid_more before l s lays h =
    ap (λ ss. place_all (board_alone (first_board ss)) (placings ss)) (more_positions before s h)
    ∙ (laid_from (positions before) s l.layout lays.laid
    ∙ ap (λ b. place_all (begins b l.layout s) (placings_of s)) (sym lays.positioned))

-- with no position statement the start is even
even_first : (ss : List Saying) (t : Layout) → stands ss ≡ false → place_all (board_alone (first_board ss)) (placings ss) ≡ Ok t → board_alone even_cells ≡ t
even_first [] t none h = cc
even_first (s ∷ ss) t none h = cc

pub even_begins : (before : List Saying) (l : Laid) → Lays before l → l.positioned ≡ false → board_alone even_cells ≡ l.layout
even_begins before l lays none = even_first (positions before) l.layout (sym lays.positioned ∙ none) lays.laid

in_order : (before : List Saying) (s : Saying) (answer : Option Why) → is_position s ≡ true → answer ≡ start_why (laid_out (before ++ s ∷ [])) → AnswersInOrder before s answer
in_order before version answer h e = cc
in_order before (name c t) answer h e = cc
in_order before (header k t) answer h e = cc
in_order before (even ps) answer h e = e
in_order before (rank n cs) answer h e = e
in_order before (pieces c ps) answer h e = e
in_order before (turn c) answer h e = cc
in_order before (walked c m) answer h e = cc
in_order before (time t) answer h e = cc
in_order before (ending e) answer h k = cc

pub mixed : (before : List Saying) (s : Saying) (new : Laid) → order_fault before s ≡ Some MixedStart → LaidOrRefused before s (Err (Order MixedStart)) new
mixed before s new h =
    (Some (Order MixedStart), subst (λ f. AnswersAfter f before s (Some (Order MixedStart))) (sym h) refl, refl, tt)

pub refused : (before : List Saying) (l new : Laid) (s : Saying) (fault : SetupFault) → Lays before l → is_position s ≡ true → order_fault before s ≡ None → place_all (begins l.positioned l.layout s) (placings_of s) ≡ Err fault → LaidOrRefused before s (Err (Start fault)) new
refused before l new s fault lays h none fails =
    let answer = in_order before s (Some (Start fault)) h (sym (ap start_why (laid_more before l s lays h ∙ fails))) in
    (Some (Start fault), subst (λ f. AnswersAfter f before s (Some (Start fault))) (sym none) answer, refl, tt)

-- a rank is given if it was before, or if this item gives it
abbrev pub RanksMore : Laid → Saying → Laid → Type 0
RanksMore l s new = (number : ℕ) → 1 ≤ number → number ≤ 9 → get_or new.ranks (number - 1) false ≡ (get_or l.ranks (number - 1) false || stands (filter (λ n. n == number) (option_to_list (rank_given s))))

given_one : (s : Saying) → filter_map rank_given (s ∷ []) ≡ option_to_list (rank_given s)
given_one s = from (rank_given s)
  where
    from : (o : Option ℕ) → cons_option o [] ≡ option_to_list o
    from None = refl
    from (Some n) = refl

ranks_more : (before : List Saying) (s : Saying) (number : ℕ) → stands (filter (λ n. n == number) (ranks (before ++ s ∷ []))) ≡ (stands (filter (λ n. n == number) (ranks before)) || stands (filter (λ n. n == number) (option_to_list (rank_given s))))
ranks_more before s number =
    ap (λ ns. stands (filter (λ n. n == number) ns)) (filter_map-append rank_given before (s ∷ []) ∙ ap (λ ns. ranks before ++ ns) (given_one s))
    ∙ (ap stands (filter-append (λ n. n == number) (ranks before) (option_to_list (rank_given s)))
    ∙ stands_both (filter (λ n. n == number) (ranks before)) (filter (λ n. n == number) (option_to_list (rank_given s))))

evens_more : (before : List Saying) (s : Saying) → stands (filter is_even (before ++ s ∷ [])) ≡ (stands (filter is_even before) || is_even s)
evens_more before s =
    ap stands (filter-append is_even before (s ∷ []))
    ∙ (stands_both (filter is_even before) (filter is_even (s ∷ [])) ∙ ap (λ b. stands (filter is_even before) || b) (one s))
  where
    one : (s : Saying) → stands (filter is_even (s ∷ [])) ≡ is_even s
    one s =
        elim (cases_Bool (is_even s)) [
          | inl hit ↦ rw hit refl
          | inr miss ↦ rw miss refl
        ]

stands_last : {X : Type 0} (xs : List X) (x : X) → stands (xs ++ x ∷ []) ≡ true
stands_last [] x = refl
stands_last (y ∷ ys) x = refl

pub taken : (before : List Saying) (l new : Laid) (s : Saying) → Lays before l → is_position s ≡ true → order_fault before s ≡ None → place_all (begins l.positioned l.layout s) (placings_of s) ≡ Ok new.layout → new.positioned ≡ true → new.even ≡ (l.even || is_even s) → RanksMore l s new → LaidOrRefused before s (Ok tt) new
taken before l new s lays h none placed positioned even_is ranks_are =
    let laid = laid_more before l s lays h ∙ placed in
    let answer = in_order before s None h (sym (ap start_why laid)) in (
      None,
      subst (λ f. AnswersAfter f before s None) (sym none) answer,
      tt,
      record {
        laid = laid;
        positioned = positioned ∙ sym (ap stands (more_positions before s h) ∙ stands_last (positions before) s);
        even = even_is ∙ (ap (λ b. b || is_even s) lays.even ∙ sym (evens_more before s));
        ranks = λ number low high.
            ranks_are number low high
            ∙ (ap (λ b. b || stands (filter (λ n. n == number) (option_to_list (rank_given s)))) (lays.ranks number low high)
            ∙ sym (ranks_more before s number));
      },
    )

pub or_none : (b : Bool) → b ≡ (b || false)
or_none true = refl
or_none false = refl

pub or_one : (b : Bool) → true ≡ (b || true)
or_one true = refl
or_one false = refl

-- no further rank
pub same_ranks : (l new : Laid) (s : Saying) → rank_given s ≡ None → new.ranks ≡ l.ranks → RanksMore l s new
same_ranks l new s none same number low high =
    ap (λ bs. get_or bs (number - 1) false) same
    ∙ (or_none (get_or l.ranks (number - 1) false) ∙ ap (λ o. get_or l.ranks (number - 1) false || stands (filter (λ n. n == number) (option_to_list o))) (sym none))

-- this further rank
pub one_rank : (l new : Laid) (n : ℕ) (cells : List (Option Piece)) → 1 ≤ n → n ≤ 9 → length l.ranks ≡ 9 → new.ranks ≡ set l.ranks (n - 1) true → RanksMore l (rank n cells) new
one_rank l new n cells from to nine is number low high =
    elim (cases_Bool (n == number)) [
      | inl hit ↦
          let same : n ≡ number = eqb-true n number hit in
          let here : get_or (set l.ranks (n - 1) true) (n - 1) false ≡ true = get_or-set_same l.ranks (n - 1) true false (omega (arith, from, to, nine)) in
          let there : get_or (set l.ranks (n - 1) true) (number - 1) false ≡ true = ap (λ m. get_or (set l.ranks (n - 1) true) (m - 1) false) (sym same) ∙ here in
          rw hit (ap (λ bs. get_or bs (number - 1) false) is ∙ (there ∙ or_one (get_or l.ranks (number - 1) false)))
      | inr miss ↦
          let apart : n ≢ number = eqb-false n number miss in
          let other : number - 1 ≢ n - 1 = λ e. apart (omega (arith, e, from, low)) in
          rw miss (ap (λ bs. get_or bs (number - 1) false) is ∙ (get_or-set_other l.ranks (n - 1) (number - 1) true false other ∙ or_none (get_or l.ranks (number - 1) false)))
    ]

-- why a position statement does not fit
pub even_late : (before : List Saying) (l : Laid) (ps : List Pair) → Lays before l → sides before ≡ [] → endings before ≡ [] → l.positioned ≡ true → order_fault before (even ps) ≡ Some MixedStart
even_late before l ps lays s e h =
    let stood : stands (positions before) ≡ true = sym lays.positioned ∙ h in
    rw (s, e, stood) refl

pub even_fits : (before : List Saying) (l : Laid) (ps : List Pair) → Lays before l → sides before ≡ [] → endings before ≡ [] → l.positioned ≡ false → order_fault before (even ps) ≡ None
even_fits before l ps lays s e h =
    let stood : stands (positions before) ≡ false = sym lays.positioned ∙ h in
    rw (s, e, stood) refl

pub pieces_fit : (before : List Saying) (c : Color) (ps : List Pair) → sides before ≡ [] → endings before ≡ [] → order_fault before (pieces c ps) ≡ None
pieces_fit before c ps s e = rw (s, e) refl

pub rank_beside_even : (before : List Saying) (l : Laid) (n : ℕ) (cells : List (Option Piece)) → Lays before l → sides before ≡ [] → endings before ≡ [] → l.even ≡ true → order_fault before (rank n cells) ≡ Some MixedStart
rank_beside_even before l n cells lays s e h =
    let stood : stands (filter is_even before) ≡ true = sym lays.even ∙ h in
    rw (s, e, stood) refl

pub rank_twice : (before : List Saying) (l : Laid) (n : ℕ) (cells : List (Option Piece)) → 1 ≤ n → n ≤ 9 → Lays before l → sides before ≡ [] → endings before ≡ [] → get_or l.ranks (n - 1) false ≡ true → order_fault before (rank n cells) ≡ Some MixedStart
rank_twice before l n cells low high lays s e h =
    let stood : stands (filter (λ m. m == n) (ranks before)) ≡ true = sym (lays.ranks n low high) ∙ h in
    elim (cases_Bool (stands (filter is_even before))) [
      | inl hit ↦ rw (s, e, hit) refl
      | inr miss ↦ rw (s, e, miss, stood) refl
    ]

pub rank_fits : (before : List Saying) (l : Laid) (n : ℕ) (cells : List (Option Piece)) → 1 ≤ n → n ≤ 9 → Lays before l → sides before ≡ [] → endings before ≡ [] → l.even ≡ false → get_or l.ranks (n - 1) false ≡ false → order_fault before (rank n cells) ≡ None
rank_fits before l n cells low high lays s e h k =
    let even_not : stands (filter is_even before) ≡ false = sym lays.even ∙ h in
    let rank_not : stands (filter (λ m. m == n) (ranks before)) ≡ false = sym (lays.ranks n low high) ∙ k in
    rw (s, e, even_not, rank_not) refl

-- where the code begins
pub begins_even : (before : List Saying) (l : Laid) (ps : List Pair) → Lays before l → l.positioned ≡ false → begins l.positioned l.layout (even ps) ≡ l.layout
begins_even before l ps lays none = ap (λ b. begins b l.layout (even ps)) none ∙ even_begins before l lays none

abbrev pub Begun : Laid → Saying → Layout → Bool → List Bool → Type 0
Begun l s start even_stood ranks_stood = (start ≡ begins l.positioned l.layout s) × (even_stood ≡ l.even) × (ranks_stood ≡ l.ranks)

pub begun_on : (l : Laid) (s : Saying) → l.positioned ≡ true → Begun l s l.layout l.even l.ranks
begun_on l s stood = (sym (ap (λ b. begins b l.layout s) stood), refl, refl)

pub begun_empty : (l : Laid) (s : Saying) (start : Layout) → is_even s ≡ false → l.positioned ≡ false → start ≡ empty_layout → Begun l s start l.even l.ranks
begun_empty l s start other none is = (is ∙ sym (ap (λ b. begins b l.layout s) none ∙ ap board_alone (first s other)), refl, refl)
  where
    first : (s : Saying) → is_even s ≡ false → first_board (s ∷ []) ≡ no_cells
    first s other = rw other refl

abbrev pub laid_as : Layout → Bool → Bool → List Bool → Laid
laid_as layout positioned even_stood ranks_stood = record { layout = layout; positioned = positioned; even = even_stood; ranks = ranks_stood }
