-- Names and headers: the headers of a map in memory are entries in the order of their keys.
use Rattle.std.proofs.Common.{◌≡◌, ◌≢◌, ℕ, suc, ◌<◌, ◌≤◌, Bool, true, false, List, [], ◌∷◌, length, Option, Some, None, MatchOption, nat_eq, nat_cmp, is_eq, is_lt, is_some, Ordering, Less, Equal, Greater, refl, sym, ap, ◌∙◌, subst, arith, cond}
use Rattle.std.specs.Prelude.{if◌then◌else◌, nat_le}
use Rattle.std.specs.BTreeMap.{insert_entry}
use Rattle.std.specs.Cmp.{partial_equiv_from_equiv, nat_eq_equiv, ranks}
use Rattle.std.specs.Cmp.Lexicographic.{slice_cmp, pointwise, lists_per, bytes_decides}
use Rattle.std.specs.Global.{Vec}
use Rattle.std.specs.Map.{lookup}
use Rattle.std.specs.Ordering.{match_ordering, MatchOrdering}
use Rattle.std.proofs.lemmas.Bool.{lt-ltb, le-ltb, le-leb, lt-leb, false≢true}
use Rattle.std.proofs.lemmas.Cmp.{same_from_slice_cmp}
use Rattle.std.proofs.lemmas.Map.Text.{is_eq-slice_cmp}
use Rattle.record_game.specs.declared.fault.Why.TheVariants.{Order}
use Rattle.record_game.specs.declared.fault.OrderFault.TheVariants.{RepeatedHeader, TooManyHeaders}
use Rattle.csa_record.specs.declared.titles.HeaderText as memory
use Rattle.record_game.specs.Game.{Entry}
use Rattle.record_game.specs.Limits.{IsEntry, is_below, Rising}
use Rattle.csa_record.specs.TitleBytes.{text_of, entry_of, entries_of}
use Rattle.record_game.specs.Titles.{Titled, under, header_fault, with_entry}
use Rattle.record_game.specs.Validity.{IsTitled}
use Rattle.record_game.proofs.EntriesWith.{rising_tail, kept, titled_with}
use Rattle.record_game.proofs.OtherKeys.{none_later}

-- the order of the map is that of the entries
pub same_key : (key k : List ℕ) → is_eq (slice_cmp nat_cmp key k) ≡ pointwise nat_eq k key
same_key key k = is_eq-slice_cmp key k ∙ (lists_per (partial_equiv_from_equiv nat_eq_equiv)).symm key k

same_byte : (x y : ℕ) (xs ys : List ℕ) (o : Ordering) → o ≡ nat_cmp x y → MatchOrdering o (is_below (x ∷ xs) (y ∷ ys) ≡ is_lt Less) (is_below (x ∷ xs) (y ∷ ys) ≡ is_below xs ys) (is_below (x ∷ xs) (y ∷ ys) ≡ is_lt Greater)
same_byte x y xs ys Less h =
    let low : x < y = subst (λ o. MatchOrdering o (x < y) (x ≡ y) (y < x)) (sym h) (ranks x y) in
    rw (lt-ltb x y low) refl
same_byte x y xs ys Equal h =
    let same : x ≡ y = subst (λ o. MatchOrdering o (x < y) (x ≡ y) (y < x)) (sym h) (ranks x y) in
    rw (le-ltb x y (omega (arith, same)), le-ltb y x (omega (arith, same))) refl
same_byte x y xs ys Greater h =
    let high : y < x = subst (λ o. MatchOrdering o (x < y) (x ≡ y) (y < x)) (sym h) (ranks x y) in
    rw (le-ltb x y (omega (arith, high)), lt-ltb y x high) refl

pub below_cmp : (a b : List ℕ) → is_lt (slice_cmp nat_cmp a b) ≡ is_below a b
below_cmp a b = same_from_slice_cmp nat_cmp is_lt is_below refl (λ y ys. refl) (λ x xs. refl) same_byte a b (slice_cmp nat_cmp a b) refl

abbrev Heads : Type 0
Heads = List (Vec ℕ × memory.HeaderText)

abbrev IsUnder : List ℕ → Option memory.HeaderText → List Entry → Type 0
IsUnder key found entries = MatchOption found (entries ≡ []) (λ text. entries ≡ record { key = key; text = text_of text } ∷ [])

under_step : (b : Bool) (key : List ℕ) (e : Vec ℕ × memory.HeaderText) (found : Option memory.HeaderText) (others : List Entry) → (b ≡ true → (e.0.items ≡ key) × (others ≡ [])) → IsUnder key found others → IsUnder key (cond b (Some e.1) found) (cond b (entry_of e.0 e.1 ∷ others) others)
under_step true key e found others h k = let p = h refl in rw (p.0, p.1) refl
under_step false key e found others h k = k

-- what the map finds is the one entry of that key
pub under_found : (es : Heads) (key : List ℕ) → Rising (entries_of es) → IsUnder key (lookup (λ k. is_eq (slice_cmp nat_cmp key k.items)) es) (under key (entries_of es))
under_found [] key h = refl
under_found (e ∷ es) key h =
    rw (same_key key e.0.items)
    (under_step (pointwise nat_eq e.0.items key) key e (lookup (λ k. is_eq (slice_cmp nat_cmp key k.items)) es) (under key (entries_of es))
    (λ t.
    let same : e.0.items ≡ key = (bytes_decides e.0.items key).0 t in
    (same, subst (λ k. under k (entries_of es) ≡ []) same (none_later (entry_of e.0 e.1) (entries_of es) h)))
    (under_found es key (rising_tail (entry_of e.0 e.1) (entries_of es) h)))

-- an entry of a new key
abbrev pub by_bytes : Vec ℕ → Vec ℕ → Ordering
by_bytes a b = slice_cmp nat_cmp a.items b.items

put_step : (o : Ordering) (e : Vec ℕ × memory.HeaderText) (es : Heads) (k : Vec ℕ) (v : memory.HeaderText) → is_eq o ≡ false → entries_of (insert_entry by_bytes es k v) ≡ with_entry (entries_of es) (entry_of k v) → entries_of (match_ordering o ((k, v) ∷ e ∷ es) ((e.0, v) ∷ es) (e ∷ insert_entry by_bytes es k v)) ≡ (if is_lt o then entry_of k v ∷ entries_of (e ∷ es) else entry_of e.0 e.1 ∷ with_entry (entries_of es) (entry_of k v))
put_step Less e es k v h p = refl
put_step Equal e es k v h p = absurd (false≢true (sym h))
put_step Greater e es k v h p = ap (λ (fs : List Entry). entry_of e.0 e.1 ∷ fs) p

pub put_entries : (es : Heads) (k : Vec ℕ) (v : memory.HeaderText) → under k.items (entries_of es) ≡ [] → entries_of (insert_entry by_bytes es k v) ≡ with_entry (entries_of es) (entry_of k v)
put_entries [] k v h = refl
put_entries (e ∷ es) k v h =
    let parts = kept (pointwise nat_eq e.0.items k.items) (entry_of e.0 e.1) (under k.items (entries_of es)) h in
    let differs : is_eq (slice_cmp nat_cmp k.items e.0.items) ≡ false = same_key k.items e.0.items ∙ parts.0 in
    rw (← below_cmp k.items e.0.items) (put_step (slice_cmp nat_cmp k.items e.0.items) e es k v differs (put_entries es k v parts.1))

abbrev pub titled : Option (List ℕ) → Option (List ℕ) → List Entry → Titled
titled black white headers = record { black = black; white = white; headers = headers }

-- refusals of a header
pub fault_free : (t : Titled) (key text : List ℕ) → under key t.headers ≡ [] → length t.headers < 64 → header_fault t key text ≡ None
fault_free t key [] new few = refl
fault_free t key (b ∷ bs) new few = rw (new, below_limit t few) refl
  where
    below_limit : (t : Titled) → length t.headers < 64 → nat_le 64 (length t.headers) ≡ false
    below_limit t few = lt-leb 64 (length t.headers) few

pub key_repeated : (t : Titled) (key text : List ℕ) (e : Entry) → text ≢ [] → under key t.headers ≡ e ∷ [] → header_fault t key text ≡ Some (Order RepeatedHeader)
key_repeated t key [] e some one = absurd (some refl)
key_repeated t key (b ∷ bs) e some one = rw one refl

pub too_many : (t : Titled) (key text : List ℕ) → text ≢ [] → under key t.headers ≡ [] → 64 ≤ length t.headers → header_fault t key text ≡ Some (Order TooManyHeaders)
too_many t key [] some new many = absurd (some refl)
too_many t key (b ∷ bs) some new many = rw (new, le-leb 64 (length t.headers) many) refl

pub length_entries : (es : Heads) → length (entries_of es) ≡ length es
length_entries [] = refl
length_entries (e ∷ es) = ap suc (length_entries es)

-- what the map returns
abbrev pub found_at : List ℕ → Heads → Option memory.HeaderText
found_at key es = lookup (λ (k : Vec ℕ). is_eq (slice_cmp nat_cmp key k.items)) es

pub found_some : (es : Heads) (key : List ℕ) (headers : List Entry) (text : memory.HeaderText) → entries_of es ≡ headers → Rising (entries_of es) → Some text ≡ found_at key es → under key headers ≡ record { key = key; text = text_of text } ∷ []
found_some es key headers text whole rising h =
    ap (under key) (sym whole) ∙ subst (λ found. IsUnder key found (under key (entries_of es))) (sym h) (under_found es key rising)

pub found_none : (es : Heads) (key : List ℕ) (headers : List Entry) → entries_of es ≡ headers → Rising (entries_of es) → None ≡ found_at key es → under key headers ≡ []
found_none es key headers whole rising h =
    ap (under key) (sym whole) ∙ subst (λ found. IsUnder key found (under key (entries_of es))) (sym h) (under_found es key rising)

some_repeated : (t : Titled) (key : List ℕ) (found : Option memory.HeaderText) → IsUnder key found (under key t.headers) → is_some found ≡ true → (text : List ℕ) → text ≢ [] → header_fault t key text ≡ Some (Order RepeatedHeader)
some_repeated t key None u h text some = absurd (false≢true h)
some_repeated t key (Some v) u h text some = key_repeated t key text (record { key = key; text = text_of v }) some u

none_new : (t : Titled) (key : List ℕ) (found : Option memory.HeaderText) → IsUnder key found (under key t.headers) → is_some found ≡ false → under key t.headers ≡ []
none_new t key None u h = u
none_new t key (Some v) u h = absurd (false≢true (sym h))

seen_under : (t : Titled) (es : Heads) (key : List ℕ) → entries_of es ≡ t.headers → Rising (entries_of es) → IsUnder key (found_at key es) (under key t.headers)
seen_under t es key whole rising = subst (λ headers. IsUnder key (found_at key es) (under key headers)) whole (under_found es key rising)

pub repeated : (t : Titled) (es : Heads) (key : List ℕ) → entries_of es ≡ t.headers → Rising (entries_of es) → is_some (found_at key es) ≡ true → (text : List ℕ) → text ≢ [] → header_fault t key text ≡ Some (Order RepeatedHeader)
repeated t es key whole rising h = some_repeated t key (found_at key es) (seen_under t es key whole rising) h

pub new_key : (t : Titled) (es : Heads) (key : List ℕ) → entries_of es ≡ t.headers → Rising (entries_of es) → is_some (found_at key es) ≡ false → under key t.headers ≡ []
new_key t es key whole rising h = none_new t key (found_at key es) (seen_under t es key whole rising) h

pub as_long : (t : Titled) (es : Heads) → entries_of es ≡ t.headers → length t.headers ≡ length es
as_long t es whole = ap (λ (fs : List Entry). length fs) (sym whole) ∙ length_entries es

-- what the map holds with one more header
pub put_headers : (t : Titled) (es fs : Heads) (k : Vec ℕ) (v : memory.HeaderText) → entries_of es ≡ t.headers → fs ≡ insert_entry by_bytes es k v → under k.items t.headers ≡ [] → entries_of fs ≡ with_entry t.headers (entry_of k v)
put_headers t es fs k v whole put new =
    ap entries_of put
    ∙ (put_entries es k v (ap (under k.items) whole ∙ new) ∙ ap (λ (gs : List Entry). with_entry gs (entry_of k v)) whole)

pub put_view : (t : Titled) (black white : Option (List ℕ)) (es fs : List Entry) (e : Entry) → titled black white es ≡ t → fs ≡ with_entry t.headers e → titled black white fs ≡ record t { headers = with_entry t.headers e }
put_view t black white es fs e view put = ap (titled black white) put ∙ ap (λ (u : Titled). record u { headers = with_entry t.headers e }) view

pub put_titled : (t u : Titled) (e : Entry) → IsTitled t → u ≡ record t { headers = with_entry t.headers e } → IsEntry e → under e.key t.headers ≡ [] → length t.headers < 64 → IsTitled u
put_titled t u e h same entry new few = subst IsTitled (sym same) (titled_with t e h entry new few)
