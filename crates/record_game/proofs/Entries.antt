-- A new header has its place among the entries.
use Rattle.std.proofs.Common.{◌≡◌, ◌≢◌, ◌⊎◌, ℕ, true, List, [], ◌∷◌, ◌++◌, refl, sym, ap, ◌∙◌, subst, arith, inl, inr}
use Rattle.std.specs.List.{AllByRecursion}
use Rattle.std.proofs.lemmas.Bool.{cases_lt}
use Rattle.record_game.specs.Game.{Entry}
use Rattle.record_game.specs.Limits.{is_below, Rising}
use Rattle.record_game.proofs.SaysOnce.{below_first, below_next}

-- of two texts one comes before the other, or they are equal
pub below_total : (a b : List ℕ) → (is_below a b ≡ true) ⊎ ((is_below b a ≡ true) ⊎ (a ≡ b))
below_total [] [] = inr (inr refl)
below_total [] (c ∷ cs) = inl refl
below_total (b ∷ bs) [] = inr (inl refl)
below_total (b ∷ bs) (c ∷ cs) =
    elim (cases_lt b c) [
      | inl low ↦ inl (below_first b c bs cs low)
      | inr high ↦ elim (cases_lt c b) [
        | inl above ↦ inr (inl (below_first c b cs bs above))
        | inr level ↦
            let same : b ≡ c = omega (arith, high, level) in
            elim (below_total bs cs) [
              | inl less ↦ inl (below_next b c bs cs same less)
              | inr other ↦ elim other [
                | inl more ↦ inr (inl (below_next c b cs bs (sym same) more))
                | inr equal ↦ inr (inr (ap (λ x. x ∷ bs) same ∙ ap (λ xs. c ∷ xs) equal))
              ]
            ]
      ]
    ]

-- where it is inserted
pub record HasPlace (es : List Entry) (e : Entry) : Type 0 where
  pub front : List Entry
  pub following : List Entry
  pub whole : es ≡ front ++ following
  pub rising : Rising (front ++ e ∷ following)

later : (x : Entry) (front following : List Entry) (e : Entry) → Rising (x ∷ (front ++ following)) → is_below x.key e.key ≡ true → Rising (front ++ e ∷ following) → Rising (x ∷ (front ++ e ∷ following))
later x [] following e r h s = (h, s)
later x (y ∷ front) following e r h s = (r.0, s)

rising_tail : (e : Entry) (es : List Entry) → Rising (e ∷ es) → Rising es
rising_tail e [] h = tt
rising_tail e (f ∷ es) h = h.1

pub place_for : (es : List Entry) (e : Entry) → Rising es → AllByRecursion (λ (x : Entry). x.key ≢ e.key) es → HasPlace es e
place_for [] e r new = record { front = []; following = []; whole = refl; rising = tt }
place_for (x ∷ xs) e r new =
    elim (below_total e.key x.key) [
      | inl before ↦ record { front = []; following = x ∷ xs; whole = refl; rising = (before, r) }
      | inr other ↦ elim other [
        | inl after ↦
            let p = place_for xs e (rising_tail x xs r) new.1 in
            let all : Rising (x ∷ (p.front ++ p.following)) = subst (λ es. Rising (x ∷ es)) p.whole r in
            record {
              front = x ∷ p.front;
              following = p.following;
              whole = ap (λ es. x ∷ es) p.whole;
              rising = later x p.front p.following e all after p.rising;
            }
        | inr equal ↦ absurd (new.0 (sym equal))
      ]
    ]
