-- The bytes of each record contain a whole game or are refused, and never both.
use Rattle.std.proofs.Common.{◌≡◌, ◌⊎◌, ℕ, zero, suc, ◌+◌, ◌-◌, ◌≤◌, false, List, [], ◌∷◌, ◌++◌, length, replicate, Some, None, refl, sym, ap, ◌∙◌, append_assoc, subst, arith, inl, inr}
use Rattle.std.specs.Prelude.{slice_index_or}
use Rattle.std.specs.List.{AllByRecursion, AllZip}
use Rattle.std.proofs.lemmas.Bool.{cases_lt}
use Rattle.std.proofs.lemmas.List.{append-nil}
use Rattle.shogi_board.specs.Cells.{even_cells}
use Rattle.csa_text.specs.declared.fault.TextFault.TheVariants.{StatementTooLong}
use Rattle.csa_cutting.specs.Cut.{TextUnit, IsCut, statement_bytes}
use Rattle.csa_text.specs.Saying.{Saying}
use Rattle.csa_text.specs.Spelling.{fault_of_row}
use Rattle.csa_cutting.proofs.Once.{cut_found, statements_once}
use Rattle.csa_text.proofs.Sayings.{same_saying, spells_or_not}
use Rattle.record_game.specs.declared.fault.OrderFault.TheVariants.{MissingTurn}
use Rattle.record_game.specs.declared.fault.Why.{Why}
use Rattle.record_game.specs.declared.fault.Why.TheVariants.{Text, Order}
use Rattle.record_game.specs.Building.{game_of}
use Rattle.record_game.specs.Validity.{IsCourse}
use Rattle.record_game.specs.Fits.{IsOfStatement}
use Rattle.record_game.specs.Game.{Game}
use Rattle.record_game.specs.Items.{sides}
use Rattle.record_game.specs.Keeping.{Stage, laying, playing, Kept, HasKept}
use Rattle.record_game.specs.Laying.{Laid}
use Rattle.shogi_board.specs.Placing.{board_alone}
use Rattle.record_game.specs.Refused.{AnswersItem, Fault, Faultless, Refused, RefusedAt, RefusedAtEnd, TellsAlone, RefusedAlone}
use Rattle.record_game.specs.Says.{Says}
use Rattle.record_game.specs.Tells.{Tells, IsSpelt}
use Rattle.record_game.specs.Titles.{untitled}
use Rattle.record_game.proofs.Answering.{is_laying}
use Rattle.record_game.proofs.Fits.{fits_of}
use Rattle.record_game.proofs.Following.{follows}
use Rattle.record_game.proofs.Keeping.{nothing_kept}
use Rattle.record_game.proofs.LaidOut.{IsWritten}
use Rattle.record_game.proofs.LaidNext.{laid_as}
use Rattle.record_game.proofs.Next.{IsWell, IsWellStage, Takes, next_item}
use Rattle.record_game.proofs.RefusedOnce.{answers_once, refused_once}
use Rattle.record_game.proofs.KeptGames.{game_of_titled, says_of_kept}
use Rattle.record_game.proofs.SaysOnce.{one_side, same_items, tells_once}
use Rattle.record_game.proofs.Units.{IsSomeUnit, statements_are}
use Rattle.record_game.proofs.Within.{all_even_within}

of_unit : (u : TextUnit) → IsSomeUnit u → length u.bytes ≤ 4096 → IsOfStatement (statement_bytes u.bytes)
of_unit u is short = record { unit = u.bytes; following = is.0; is_unit = is.1; short = short; whole = refl }

-- the next statement has a fault, or its item is taken
faulty_or_fine : (before : List Saying) (k : Kept) (u : TextUnit) → IsSomeUnit u → HasKept before k → IsWell k → ((why : Why) × Fault before u why) ⊎ ((s : Saying) × IsSpelt u s × Takes before s)
faulty_or_fine before k u is_unit h well =
    elim (cases_lt 4096 (length u.bytes)) [
      | inl long ↦ inl (Text StatementTooLong, inl (long, refl))
      | inr short ↦ elim (spells_or_not (statement_bytes u.bytes)) [
        | inr none ↦ inl (Text (fault_of_row (statement_bytes u.bytes)), inr (inl (short, none, refl)))
        | inl said ↦ elim (next_item before k said.0 (fits_of (statement_bytes u.bytes) said.0 (of_unit u is_unit short) said.1) h well) [
          | inl late ↦ inl (late.0, inr (inr (said.0, (short, said.1), late.1)))
          | inr fine ↦ inr (said.0, (short, said.1), fine)
        ]
      ]
    ]

-- the first statement with a fault
record FirstFault (before : List Saying) (us : List TextUnit) : Type 0 where
  front : List TextUnit
  unit : TextUnit
  following : List TextUnit
  sayings : List Saying
  why : Why
  whole : us ≡ front ++ unit ∷ following
  faultless : Faultless before front sayings
  fault : Fault (before ++ sayings) unit why

-- no statement has one, and this is kept
record NoFault (before : List Saying) (us : List TextUnit) : Type 0 where
  sayings : List Saying
  faultless : Faultless before us sayings
  kept : Kept
  keeps : HasKept (before ++ sayings) kept
  well : IsWell kept

fault_next : (before : List Saying) (u : TextUnit) (us : List TextUnit) (s : Saying) → IsSpelt u s → AnswersItem before s None → FirstFault (before ++ s ∷ []) us → FirstFault before (u ∷ us)
fault_next before u us s spelt fine f = record {
  front = u ∷ f.front;
  unit = f.unit;
  following = f.following;
  sayings = s ∷ f.sayings;
  why = f.why;
  whole = ap (λ vs. u ∷ vs) f.whole;
  faultless = (spelt, fine, f.faultless);
  fault = subst (λ b. Fault b f.unit f.why) (append_assoc before (s ∷ []) f.sayings) f.fault;
}

fine_next : (before : List Saying) (u : TextUnit) (us : List TextUnit) (s : Saying) → IsSpelt u s → AnswersItem before s None → NoFault (before ++ s ∷ []) us → NoFault before (u ∷ us)
fine_next before u us s spelt fine f = record {
  sayings = s ∷ f.sayings;
  faultless = (spelt, fine, f.faultless);
  kept = f.kept;
  keeps = subst (λ b. HasKept b f.kept) (append_assoc before (s ∷ []) f.sayings) f.keeps;
  well = f.well;
}

no_fault_or_first : (before : List Saying) (k : Kept) (us : List TextUnit) → AllByRecursion IsSomeUnit us → HasKept before k → IsWell k → NoFault before us ⊎ FirstFault before us
no_fault_or_first before k [] units h well = inl (record {
  sayings = [];
  faultless = tt;
  kept = k;
  keeps = subst (λ b. HasKept b k) (sym (append-nil before)) h;
  well = well;
})
no_fault_or_first before k (u ∷ us) units h well =
    elim (faulty_or_fine before k u units.0 h well) [
      | inl faulty ↦ inr (record {
        front = [];
        unit = u;
        following = us;
        sayings = [];
        why = faulty.0;
        whole = refl;
        faultless = tt;
        fault = subst (λ b. Fault b u faulty.0) (sym (append-nil before)) faulty.1;
      })
      | inr fine ↦ elim (no_fault_or_first (before ++ fine.0 ∷ []) fine.2.kept us units.1 fine.2.keeps fine.2.well) [
        | inl rest_fine ↦ inl (fine_next before u us fine.0 fine.1 fine.2.answer rest_fine)
        | inr fault ↦ inr (fault_next before u us fine.0 fine.1 fine.2.answer fault)
      ]
    ]

-- nothing is kept at first
no_flag : (n i : ℕ) → slice_index_or (replicate n false) i false ≡ false
no_flag zero i = refl
no_flag (suc n) zero = refl
no_flag (suc n) (suc i) = no_flag n i

first_laid : Laid
first_laid = laid_as (board_alone even_cells) false false (replicate 9 false)

first_kept : Kept
first_kept = record { begun = false; titles = untitled; stage = laying first_laid }

first_keeps : HasKept [] first_kept
unfolding first_kept first_laid
first_keeps = nothing_kept first_laid (record { laid = refl; positioned = refl; even = refl; ranks = λ number low high. no_flag 9 (number - 1) })

first_well : IsWell first_kept
unfolding first_kept first_laid
first_well = (record { black = tt; white = tt; entries = tt; rising = tt; few_headers = omega arith }, (all_even_within, refl))

-- what was spelled
spelt_all : (before : List Saying) (us : List TextUnit) (ss : List Saying) → Faultless before us ss → AllZip IsSpelt us ss
spelt_all before [] [] f = tt
spelt_all before [] (s ∷ ss) f = absurd f
spelt_all before (u ∷ us) [] f = absurd f
spelt_all before (u ∷ us) (s ∷ ss) f = (f.0, spelt_all (before ++ s ∷ []) us ss f.2)

written_all : (us : List TextUnit) (ss : List Saying) → AllZip IsSpelt us ss → AllByRecursion IsWritten ss
written_all [] [] z = tt
written_all [] (s ∷ ss) z = absurd z
written_all (u ∷ us) [] z = absurd z
written_all (u ∷ us) (s ∷ ss) z = ((statement_bytes u.bytes, z.0.1), written_all us ss z.1)

record SpeltAround (front : List TextUnit) (u : TextUnit) (following : List TextUnit) (all : List Saying) : Type 0 where
  before : List Saying
  here : Saying
  after : List Saying
  whole : all ≡ before ++ here ∷ after
  front_spelt : AllZip IsSpelt front before
  here_spelt : IsSpelt u here

spelt_around : (front : List TextUnit) (u : TextUnit) (following : List TextUnit) (all : List Saying) → AllZip IsSpelt (front ++ u ∷ following) all → SpeltAround front u following all
spelt_around [] u following [] z = absurd z
spelt_around [] u following (s ∷ ss) z = record { before = []; here = s; after = ss; whole = refl; front_spelt = tt; here_spelt = z.0 }
spelt_around (v ∷ vs) u following [] z = absurd z
spelt_around (v ∷ vs) u following (s ∷ ss) z =
    let r = spelt_around vs u following ss z.1 in
    record { before = s ∷ r.before; here = r.here; after = r.after; whole = ap (λ xs. s ∷ xs) r.whole; front_spelt = (z.0, r.front_spelt); here_spelt = r.here_spelt }

front_units : (front : List TextUnit) (u : TextUnit) (following : List TextUnit) → AllByRecursion IsSomeUnit (front ++ u ∷ following) → AllByRecursion IsSomeUnit front
front_units [] u following h = tt
front_units (v ∷ vs) u following h = (h.0, front_units vs u following h.1)

-- something is kept of statements without a fault
record KeptOf (sayings : List Saying) : Type 0 where
  kept : Kept
  keeps : HasKept sayings kept
  well : IsWell kept

kept_along : (before : List Saying) (k : Kept) (us : List TextUnit) (ss : List Saying) → AllByRecursion IsSomeUnit us → Faultless before us ss → HasKept before k → IsWell k → KeptOf (before ++ ss)
kept_along before k [] [] units f h well = record { kept = k; keeps = subst (λ b. HasKept b k) (sym (append-nil before)) h; well = well }
kept_along before k [] (s ∷ ss) units f h well = absurd f
kept_along before k (u ∷ us) [] units f h well = absurd f
kept_along before k (u ∷ us) (s ∷ ss) units f h well =
    elim (next_item before k s (fits_of (statement_bytes u.bytes) s (of_unit u units.0 f.0.0) f.0.1) h well) [
      | inl late ↦ let clash : None ≡ Some late.0 = answers_once before s None (Some late.0) f.1 late.1 in cc
      | inr takes ↦ subst KeptOf (append_assoc before (s ∷ []) ss) (kept_along (before ++ s ∷ []) takes.kept us ss units.1 f.2 takes.keeps takes.well)
    ]

-- what has a fault is not taken
fault_or_taken : (before : List Saying) (u : TextUnit) (why : Why) (s : Saying) → Fault before u why → IsSpelt u s → AnswersItem before s None → ⊥
fault_or_taken before u why s (inl long) spelt fine = let few = spelt.0 in let many = long.0 in omega (arith, few, many)
fault_or_taken before u why s (inr (inl unspelt)) spelt fine = unspelt.1 s spelt.1
fault_or_taken before u why s (inr (inr late)) spelt fine =
    let same : late.0 ≡ s = same_saying (statement_bytes u.bytes) late.0 s late.1.1 spelt.1 in
    let some : AnswersItem before s (Some why) = subst (λ t. AnswersItem before t (Some why)) same late.2 in
    let clash : None ≡ Some why = answers_once before s None (Some why) fine some in
    cc

stated_not_at : (source : List ℕ) (g : Game) (n o : ℕ) (why : Why) → Tells source g → RefusedAt source n o why → ⊥
stated_not_at source g n o why t r =
    let cuts : t.statements ≡ r.front ++ r.unit ∷ r.following = statements_once _ _ t.statements _ t.cut r.cut in
    let around = spelt_around r.front r.unit r.following t.sayings (subst (λ us. AllZip IsSpelt us t.sayings) cuts t.spelt) in
    let units = front_units r.front r.unit r.following (statements_are _ _ (r.front ++ r.unit ∷ r.following) r.cut) in
    let k = kept_along [] first_kept r.front r.sayings units r.faultless first_keeps first_well in
    let fronts : around.before ≡ r.sayings = same_items r.front around.before r.sayings around.front_spelt (spelt_all [] r.front r.sayings r.faultless) in
    let whole : t.sayings ≡ r.sayings ++ around.here ∷ around.after = around.whole ∙ ap (λ ss. ss ++ around.here ∷ around.after) fronts in
    let written = subst (AllByRecursion IsWritten) whole (written_all t.statements t.sayings t.spelt) in
    let says = subst (λ ss. Says ss g) whole t.says in
    fault_or_taken r.sayings r.unit why around.here r.fault around.here_spelt (follows r.sayings around.here around.after k.kept g k.keeps written says)

stated_not_at_end : (source : List ℕ) (g : Game) (n o : ℕ) (why : Why) → Tells source g → RefusedAtEnd source n o why → ⊥
stated_not_at_end source g n o why t end =
    let cuts : t.statements ≡ end.statements = statements_once _ _ t.statements end.statements t.cut end.cut in
    let spelt = subst (λ us. AllZip IsSpelt us t.sayings) cuts t.spelt in
    let items : t.sayings ≡ end.sayings = same_items end.statements t.sayings end.sayings spelt (spelt_all [] end.statements end.sayings end.faultless) in
    let some : [] ≡ g.start.side ∷ [] = sym end.no_side ∙ (ap sides (sym items) ∙ one_side t.sayings g t.says) in
    cc

stated_not_refused : (source : List ℕ) (g : Game) (n o : ℕ) (why : Why) → Tells source g → Refused source n o why → ⊥
stated_not_refused source g n o why t (inl at) = stated_not_at source g n o why t at
stated_not_refused source g n o why t (inr end) = stated_not_at_end source g n o why t end

abbrev IsRefused : List ℕ → Type 0
IsRefused source = (n o : ℕ) × (why : Why) × Refused source n o why

-- without a fault they contain a game, or lack the side to move
stated_by : (source : List ℕ) (us : List TextUnit) → IsCut source us → (f : NoFault [] us) (stage : Stage) → f.kept.stage ≡ stage → ((g : Game) × Tells source g) ⊎ IsRefused source
stated_by source us cut f (playing c) is =
    let spelt = spelt_all [] us f.sayings f.faultless in
    let course : IsCourse c = subst IsWellStage is f.well.1 in
    inl (
      game_of f.kept.titles c,
      record {
        statements = us;
        sayings = f.sayings;
        cut = cut;
        spelt = spelt;
        says = says_of_kept f.sayings f.kept c (written_all us f.sayings spelt) f.keeps is (game_of_titled f.kept.titles c f.well.0 course);
      },
    )
stated_by source us cut f (laying l) is =
    inr (
      length us + 1,
      length source,
      Order MissingTurn,
      inr (record {
        statements = us;
        sayings = f.sayings;
        cut = cut;
        faultless = f.faultless;
        no_side = (is_laying f.sayings f.kept l f.keeps is).sides;
        number_is = refl;
        place = refl;
        why_is = refl;
      }),
    )

tells_or_refused : (source : List ℕ) → ((g : Game) × Tells source g) ⊎ IsRefused source
tells_or_refused source =
    let cut = cut_found source in
    elim (no_fault_or_first [] first_kept cut.0 (statements_are _ _ cut.0 cut.1) first_keeps first_well) [
      | inl fine ↦ stated_by source cut.0 cut.1 fine fine.kept.stage refl
      | inr f ↦ inr (
        length f.front + 1,
        f.unit.offset,
        f.why,
        inl (record {
          front = f.front;
          unit = f.unit;
          following = f.following;
          sayings = f.sayings;
          cut = subst (IsCut source) f.whole cut.1;
          faultless = f.faultless;
          fault = f.fault;
          number_is = refl;
          place = refl;
        }),
      )
    ]

-- exactly one of them, in one way
pub stated_or_refused : (source : List ℕ) → TellsAlone source ⊎ RefusedAlone source
stated_or_refused source =
    elim (tells_or_refused source) [
      | inl stated ↦ inl (record {
        game = stated.0;
        tells = stated.1;
        only = λ other tells. tells_once source other stated.0 tells stated.1;
        not_refused = λ n o why refused. stated_not_refused source stated.0 n o why stated.1 refused;
      })
      | inr r ↦ inr (record {
        number = r.0;
        offset = r.1;
        why = r.2;
        refused = r.3;
        only = λ n o w again. refused_once source r.0 r.1 n o r.2 w r.3 again;
        tells_no_game = λ g tells. stated_not_refused source g r.0 r.1 r.2 tells r.3;
      })
    ]
