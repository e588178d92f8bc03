-- How the text of a position block is read.
use Rattle.std.proofs.Common.{◌≡◌, ◌<◌, ◌≤◌, ◌-◌, ◌↔◌, IsTrue, ℕ, Bool, true, false, List, [], ◌∷◌, ◌++◌, length, append_assoc, append-nil, arith, refl, sym, subst}
use Rattle.std.specs.List.{AllByRecursion, AllZip}
use Rattle.csa_cutting.proofs.Once.{statements_once}
use Rattle.csa_cutting.proofs.Spoken.{unit_has_some}
use Rattle.csa_cutting.specs.Cut.{TextUnit, IsCut}
use Rattle.csa_cutting.specs.Cutting.{Cutting, ToCome, IsTooLong}
use Rattle.csa_text.specs.Saying.{Saying}
use Rattle.csa_text.specs.Spelling.{Spells}
use Rattle.csa_record.specs.Tells.{IsSpelt}
use Rattle.shogi_session.proofs.Nexts.{Handed, unit_of, handed_steps, handed_first, handed_spelt}
use Rattle.session_lines.proofs.OneStatement.{AtStart, whole}
use Rattle.bridge_table.proofs.PositionFits.{FitsIn, not_so}
use Rattle.shogi_session.specs.PositionTexts.{SpellsPosition, IsPositionText}

-- the statements so far are of these kinds, and the rest follows them
pub record HasRead (text : List ℕ) (c : Cutting) : Type 0 where
  pub source : c.source ≡ text
  pub handed : List TextUnit
  pub sayings : List Saying
  pub spelt : AllZip IsSpelt handed sayings
  pub fit : AllByRecursion FitsIn sayings
  pub whole : (others : List TextUnit) → ToCome c others → IsCut text (handed ++ others)

pub start_read : (text : List ℕ) (c : Cutting) → AtStart text c → HasRead text c
start_read text c start =
    record { source = start.source; handed = []; sayings = []; spelt = tt; fit = tt; whole = λ others rest. whole text c others start rest }

spelt_after : (us : List TextUnit) (ss : List Saying) (u : TextUnit) (s : Saying) → AllZip IsSpelt us ss → IsSpelt u s
    → AllZip IsSpelt (us ++ u ∷ []) (ss ++ s ∷ [])
spelt_after [] [] u s all one = (one, tt)
spelt_after [] (t ∷ ts) u s all one = absurd all
spelt_after (v ∷ vs) [] u s all one = absurd all
spelt_after (v ∷ vs) (t ∷ ts) u s all one = (all.0, spelt_after vs ts u s all.1 one)

fit_after : (ss : List Saying) (s : Saying) → AllByRecursion FitsIn ss → FitsIn s → AllByRecursion FitsIn (ss ++ s ∷ [])
fit_after [] s all one = (one, tt)
fit_after (t ∷ ts) s all one = (all.0, fit_after ts s all.1 one)

pub read_on : (text : List ℕ) (c d : Cutting) (number offset : ℕ) (bytes : List ℕ) → HasRead text c → Handed c d number offset bytes
    → SpellsPosition bytes → HasRead text d
read_on text c d number offset bytes h out says =
    let u = unit_of c d offset in
    record {
      source = subst (λ x. d.source ≡ x) h.source out.same;
      handed = h.handed ++ u ∷ [];
      sayings = h.sayings ++ says.0 ∷ [];
      spelt = spelt_after h.handed h.sayings u says.0 h.spelt (handed_spelt c d number offset bytes says.0 out says.1);
      fit = fit_after h.sayings says.0 h.fit says.2;
      whole = λ others rest. rw (append_assoc) (h.whole (u ∷ others) (handed_steps c d number offset bytes out others rest));
    }

pub read_less : (text : List ℕ) (c d : Cutting) (number offset : ℕ) (bytes : List ℕ) → HasRead text c → Handed c d number offset bytes
    → length text - d.at < length text - c.at
read_less text c d number offset bytes h out =
    let order = out.out.first.order in
    let some = unit_has_some c.source offset d.at out.out.first.unit in
    let within = subst (λ x. d.at ≤ length x) h.source out.out.first.unit.within in
    omega (arith, order, some, within)

pub all_read : (text : List ℕ) (c : Cutting) → HasRead text c → ToCome c [] → IsPositionText text
all_read text c h end =
    record {
      statements = h.handed;
      sayings = h.sayings;
      cut = subst (IsCut text) (append-nil h.handed) (h.whole [] end);
      spelt = h.spelt;
      no_others = h.fit;
    }

-- the item of a statement among others
spelt_there : (us : List TextUnit) (u : TextUnit) (rest : List TextUnit) (ss : List Saying) → AllZip IsSpelt (us ++ u ∷ rest) ss
    → AllByRecursion FitsIn ss → (s : Saying) × IsSpelt u s × FitsIn s
spelt_there [] u rest [] all fit = absurd all
spelt_there [] u rest (s ∷ ss) all fit = (s, all.0, fit.0)
spelt_there (v ∷ vs) u rest [] all fit = absurd all
spelt_there (v ∷ vs) u rest (s ∷ ss) all fit = spelt_there vs u rest ss all.1 fit.1

there : (text : List ℕ) (c : Cutting) (u : TextUnit) (rest : List TextUnit) → HasRead text c → ToCome c (u ∷ rest) → IsPositionText text
    → (s : Saying) × IsSpelt u s × FitsIn s
there text c u rest h come p =
    let same = statements_once _ _ p.statements (h.handed ++ u ∷ rest) p.cut (h.whole (u ∷ rest) come) in
    spelt_there h.handed u rest p.sayings (subst (λ us. AllZip IsSpelt us p.sayings) same p.spelt) p.no_others

pub another_read : (text : List ℕ) (c d : Cutting) (number offset : ℕ) (bytes : List ℕ) → HasRead text c → Handed c d number offset bytes
    → (SpellsPosition bytes → ⊥) → IsPositionText text → ⊥
another_read text c d number offset bytes h out none p =
    let first = handed_first c d number offset bytes out in
    let s = there text c (unit_of c d offset) first.0 h first.1 p in
    none (s.0, subst (λ b. Spells b s.0) (sym out.out.slice) s.1.1, s.2)

pub long_read : (text : List ℕ) (c : Cutting) (number offset : ℕ) → HasRead text c → IsTooLong c number offset → IsPositionText text → ⊥
long_read text c number offset h too p =
    let s = there text c too.unit too.others h too.first p in
    let long = too.long in
    let short = s.1.0 in
    absurd (omega (arith, long, short))

-- 2. Answers
pub stated_so : (P : Type 0) → P → IsTrue true ↔ P
stated_so P p = (λ h. p, λ q. refl)

pub stated_otherwise : (P : Type 0) → (P → ⊥) → IsTrue false ↔ P
stated_otherwise P none = (λ h. absurd (not_so h), λ p. absurd (none p))

pub otherwise : (b : Bool) (P : Type 0) → b ≡ false → (IsTrue b ↔ P) → P → ⊥
otherwise true P e so p = absurd cc
otherwise false P e so p = not_so (so.1 p)
