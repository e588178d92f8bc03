-- Moving names and headers leads from items that say a game to others that say it.
use Rattle.std.proofs.Common.{◌≡◌, ◌⊎◌, ℕ, ◌==◌, List, [], ◌∷◌, ◌++◌, filter, drop, refl, sym, ap, subst, ◌∙◌, append_assoc, inl, inr}
use Rattle.csa_text.specs.Saying.{Saying, version, name, header, even, rank, pieces, turn, walked, time, ending}
use Rattle.record_game.specs.Game.{Game, Entry}
use Rattle.record_game.specs.Items.{headers, is_even, ranks, positions, body, AtMostOne}
use Rattle.record_game.specs.Rearranged.{Reordered, IsRearranged, IsVersionFirst}
use Rattle.record_game.specs.Says.{Says, IsValue, AreEntries, played_items}
use Rattle.record_game.specs.Union.{GiveStart}
use Rattle.record_game.proofs.SaysOnce.{says_once}

-- ---- where an element of two joined lists is

record InFront {X : Type 0} (f b f2 : List X) (e : X) (b2 : List X) : Type 0 where
  middle : List X
  front_is : f ≡ f2 ++ e ∷ middle
  following_is : b2 ≡ middle ++ b

record InBack {X : Type 0} (f b f2 : List X) (e : X) (b2 : List X) : Type 0 where
  middle : List X
  back_is : b ≡ middle ++ e ∷ b2
  front_is : f2 ≡ f ++ middle

head_is : {X : Type 0} (x y : X) (xs ys : List X) → x ∷ xs ≡ y ∷ ys → x ≡ y
head_is x y xs ys h = cc

tail_is : {X : Type 0} (x y : X) (xs ys : List X) → x ∷ xs ≡ y ∷ ys → xs ≡ ys
tail_is x y xs ys h = cc

split : {X : Type 0} (f b f2 : List X) (e : X) (b2 : List X) → f ++ b ≡ f2 ++ e ∷ b2
    → InFront f b f2 e b2 ⊎ InBack f b f2 e b2
split [] b f2 e b2 h = inr (record { middle = f2; back_is = h; front_is = refl })
split (x ∷ f) b [] e b2 h =
    inl (record {
      middle = f;
      front_is = ap (λ y. y ∷ f) (head_is x e (f ++ b) b2 h);
      following_is = sym (tail_is x e (f ++ b) b2 h);
    })
split (x ∷ f) b (y ∷ f2) e b2 h =
    let same = head_is x y (f ++ b) (f2 ++ e ∷ b2) h in
    elim (split f b f2 e b2 (tail_is x y (f ++ b) (f2 ++ e ∷ b2) h)) [
      | inl s ↦ inl (record {
        middle = s.middle;
        front_is = ap (λ z. z ∷ f) same ∙ ap (λ zs. y ∷ zs) s.front_is;
        following_is = s.following_is;
      })
      | inr s ↦ inr (record {
        middle = s.middle;
        back_is = s.back_is;
        front_is = ap (λ z. z ∷ f2) (sym same) ∙ ap (λ zs. x ∷ zs) s.front_is;
      })
    ]

-- ---- one header more, wherever it is among them

more_entries : (hs front following : List (List ℕ × List ℕ)) (h : List ℕ × List ℕ) (f : List Entry) (e : Entry) (b : List Entry)
    → hs ≡ front ++ following → AreEntries hs (f ++ b) → e.key ≡ h.0 → IsValue h.0 h.1 e.text → AreEntries (front ++ h ∷ following) (f ++ e ∷ b)
more_entries hs [] following h f e b is all key value = (f, e, b, refl, key, value, subst (λ xs. AreEntries xs (f ++ b)) is all)
more_entries [] (k ∷ front) following h f e b is all key value = cc
more_entries (j ∷ hs) (k ∷ front) following h f e b is (f2, x, b2, whole, key_is, value_is, rest) key value =
    let same : j ≡ k = head_is j k hs (front ++ following) is in
    let others : hs ≡ front ++ following = tail_is j k hs (front ++ following) is in
    let key_k : x.key ≡ k.0 = key_is ∙ ap (λ (z : List ℕ × List ℕ). z.0) same in
    let value_k : IsValue k.0 k.1 x.text = subst (λ (z : List ℕ × List ℕ). IsValue z.0 z.1 x.text) same value_is in
    elim (split f b f2 x b2 whole) [
      | inl s ↦
          let there : f2 ++ b2 ≡ (f2 ++ s.middle) ++ b = ap (λ xs. f2 ++ xs) s.following_is ∙ sym (append_assoc f2 s.middle b) in
          let more : AreEntries (front ++ h ∷ following) ((f2 ++ s.middle) ++ e ∷ b) =
          more_entries hs front following h (f2 ++ s.middle) e b others (subst (λ es. AreEntries hs es) there rest) key value in (
            f2,
            x,
            s.middle ++ e ∷ b,
            ap (λ xs. xs ++ e ∷ b) s.front_is ∙ append_assoc f2 (x ∷ s.middle) (e ∷ b),
            key_k,
            value_k,
            subst (λ es. AreEntries (front ++ h ∷ following) es) (append_assoc f2 s.middle (e ∷ b)) more,
          )
      | inr s ↦
          let there : f2 ++ b2 ≡ f ++ (s.middle ++ b2) = ap (λ xs. xs ++ b2) s.front_is ∙ append_assoc f s.middle b2 in
          let more : AreEntries (front ++ h ∷ following) (f ++ e ∷ (s.middle ++ b2)) =
          more_entries hs front following h f e (s.middle ++ b2) others (subst (λ es. AreEntries hs es) there rest) key value in (
            f ++ e ∷ s.middle,
            x,
            b2,
            ap (λ xs. f ++ e ∷ xs) s.back_is ∙ sym (append_assoc f (e ∷ s.middle) (x ∷ b2)),
            key_k,
            value_k,
            subst (λ es. AreEntries (front ++ h ∷ following) es) (sym (append_assoc f (e ∷ s.middle) b2)) more,
          )
    ]

entries_moved : (hs ks : List (List ℕ × List ℕ)) (es : List Entry) → Reordered hs ks → AreEntries hs es → AreEntries ks es
entries_moved [] ks es is all = subst (λ xs. AreEntries xs es) (sym is) all
entries_moved (h ∷ hs) ks es (front, following, is, others) (f, e, b, whole, key, value, rest) =
    let more : AreEntries (front ++ h ∷ following) (f ++ e ∷ b) =
    more_entries (front ++ following) front following h f e b refl (entries_moved hs (front ++ following) (f ++ b) others rest) key value in
    subst (λ xs. AreEntries xs es) (sym is) (subst (λ ys. AreEntries (front ++ h ∷ following) ys) (sym whole) more)

-- ---- what is read off the body

even_body : (ss : List Saying) → filter is_even (body ss) ≡ filter is_even ss
even_body [] = refl
even_body (version ∷ ss) = even_body ss
even_body (name c t ∷ ss) = even_body ss
even_body (header k t ∷ ss) = even_body ss
even_body (even ps ∷ ss) = ap (λ xs. even ps ∷ xs) (even_body ss)
even_body (rank n cs ∷ ss) = even_body ss
even_body (pieces c ps ∷ ss) = even_body ss
even_body (turn c ∷ ss) = even_body ss
even_body (walked c m ∷ ss) = even_body ss
even_body (time t ∷ ss) = even_body ss
even_body (ending e ∷ ss) = even_body ss

ranks_body : (ss : List Saying) → ranks (body ss) ≡ ranks ss
ranks_body [] = refl
ranks_body (version ∷ ss) = ranks_body ss
ranks_body (name c t ∷ ss) = ranks_body ss
ranks_body (header k t ∷ ss) = ranks_body ss
ranks_body (even ps ∷ ss) = ranks_body ss
ranks_body (rank n cs ∷ ss) = ap (λ xs. n ∷ xs) (ranks_body ss)
ranks_body (pieces c ps ∷ ss) = ranks_body ss
ranks_body (turn c ∷ ss) = ranks_body ss
ranks_body (walked c m ∷ ss) = ranks_body ss
ranks_body (time t ∷ ss) = ranks_body ss
ranks_body (ending e ∷ ss) = ranks_body ss

position_of_body : (s : Saying) (ss : List Saying) → positions (body (s ∷ ss)) ≡ positions (s ∷ []) ++ positions (body ss)
position_of_body version ss = refl
position_of_body (name c t) ss = refl
position_of_body (header k t) ss = refl
position_of_body (even ps) ss = refl
position_of_body (rank n cs) ss = refl
position_of_body (pieces c ps) ss = refl
position_of_body (turn c) ss = refl
position_of_body (walked c m) ss = refl
position_of_body (time t) ss = refl
position_of_body (ending e) ss = refl

position_first : (s : Saying) (ss : List Saying) → positions (s ∷ ss) ≡ positions (s ∷ []) ++ positions ss
position_first version ss = refl
position_first (name c t) ss = refl
position_first (header k t) ss = refl
position_first (even ps) ss = refl
position_first (rank n cs) ss = refl
position_first (pieces c ps) ss = refl
position_first (turn c) ss = refl
position_first (walked c m) ss = refl
position_first (time t) ss = refl
position_first (ending e) ss = refl

positions_body : (ss : List Saying) → positions (body ss) ≡ positions ss
positions_body [] = refl
positions_body (s ∷ ss) =
    position_of_body s ss ∙ (ap (λ xs. positions (s ∷ []) ++ xs) (positions_body ss) ∙ sym (position_first s ss))

-- ---- the game

pub says_moved : (ss ts : List Saying) (g : Game) → Says ss g → IsVersionFirst ts → IsRearranged ss ts → Says ts g
says_moved ss ts g p first m =
    let places : positions ss ≡ positions ts = sym (positions_body ss) ∙ (ap positions m.same_body ∙ positions_body ts) in
    let evens : filter is_even ss ≡ filter is_even ts = sym (even_body ss) ∙ (ap (λ xs. filter is_even xs) m.same_body ∙ even_body ts) in
    let numbers : ranks ss ≡ ranks ts = sym (ranks_body ss) ∙ (ap ranks m.same_body ∙ ranks_body ts) in
    record {
      version_first = first;
      black = sym m.black ∙ p.black;
      white = sym m.white ∙ p.white;
      headers = entries_moved (headers ss) (headers ts) g.headers m.same_headers p.headers;
      even_first = subst (λ xs. filter is_even (drop 1 xs) ≡ []) places p.even_first;
      even_or_ranks = subst (λ (xs : List Saying). (xs ≡ []) ⊎ (ranks ts ≡ [])) evens (subst (λ (ns : List ℕ). (filter is_even ss ≡ []) ⊎ (ns ≡ [])) numbers p.even_or_ranks);
      ranks_once = subst (λ (ns : List ℕ). (number : ℕ) → AtMostOne (filter (λ n. n == number) ns)) numbers p.ranks_once;
      start = subst (λ xs. GiveStart xs g.start) places p.start;
      in_order = sym m.same_body ∙ (p.in_order ∙ ap (λ xs. xs ++ turn g.start.side ∷ played_items g) places);
      game = p.game;
    }

pub said_anywhere : (ss ts : List Saying) (g h : Game) → Says ss g → Says ts h → IsRearranged ss ts → g ≡ h
said_anywhere ss ts g h p q r = says_once ts g h (says_moved ss ts g p q.version_first r) q
