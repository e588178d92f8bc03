use Rattle.std.proofs.Common.{◌≡◌, ◌+◌, ◌<◌, List, [], ◌∷◌, ◌++◌, set, arith, refl, sym, length, length-set}
use Rattle.std.proofs.lemmas.Grind.{common_steps}
use Rattle.std.proofs.lemmas.List.{length-append}
use Rattle.std.proofs.lemmas.Option.{slice_get_read, slice_get_within}
use Rattle.shogi_rules.specs.Counting.{AreCounts, StandsAt}
use Rattle.shogi_rules.specs.Repetition.{times}
use Rattle.shogi_rules.specs.Searching.{IsFree, keys}
use Rattle.shogi_rules.specs.declared.occurrences.Entry.{Entry}
use Rattle.shogi_rules.proofs.Counting.{count-low, counts-again, counts-more, stands-again, stands-following}
use Rattle.shogi_rules.proofs.Searched.{free-stands, tree-kept, tree-more}
use Rattle.shogi_rules.proofs.occurrences.Occurrences.add.Goals as goal

pub overflow_add-index_mut : goal.overflow_add-index_mut
overflow_add-index_mut c =
    let es = c.self.inside.entries.items in
    let n = c.in-Ok.n in
    let e = c.index_mut.result.now in
    let found : (n < length es) × StandsAt es n c.args.position.now = rw c.deref.ensures.value at c.in-Ok.ensures in
    let at = slice_get_read es (length es) n e refl found.0 c.index_mut.ensures.value in
    let counts : AreCounts c.requires.counted.0 es = rw (sym c.self.view_is) at c.requires.counted.2 in
    let low = count-low c.requires.counted.0 es n e counts at in
    omega (arith, low, c.requires.counted.1, c.requires.few)

pub invariant_of-self : goal.invariant_of-self
invariant_of-self c =
    let es = c.self.inside.entries.items in
    let n = c.in-Ok.n in
    let e = c.index_mut.result.now in
    let found : (n < length es) × StandsAt es n c.args.position.now = rw c.deref.ensures.value at c.in-Ok.ensures in
    let at = slice_get_read es (length es) n e refl found.0 c.index_mut.ensures.value in
    tree-kept es c.self.inside.links.items n e (record e { count = e.count + 1 }) c.self.invariant at refl

pub returns-in-Ok-clause-ok : goal.returns-in-Ok-clause-ok
returns-in-Ok-clause-ok c = λ ps long counts.
    let es = c.self.inside.entries.items in
    let n = c.in-Ok.n in
    let e = c.index_mut.result.now in
    let found : (n < length es) × StandsAt es n c.args.position.now = rw c.deref.ensures.value at c.in-Ok.ensures in
    let at = slice_get_read es (length es) n e refl found.0 c.index_mut.ensures.value in
    let old : AreCounts ps es = rw (sym c.self.view_is) at counts in
    counts-again ps es n e (record e { count = e.count + 1 }) c.args.position.now old at (found.1 e at) refl refl refl

pub returns-in-Ok-clause-place : goal.returns-in-Ok-clause-place
returns-in-Ok-clause-place c =
    let es = c.self.inside.entries.items in
    let n = c.in-Ok.n in
    let e = c.index_mut.result.now in
    let found : (n < length es) × StandsAt es n c.args.position.now = rw c.deref.ensures.value at c.in-Ok.ensures in
    let at = slice_get_read es (length es) n e refl found.0 c.index_mut.ensures.value in
    let new : Entry = record e { count = e.count + 1 } in
    let long = length-set es n new in
    (omega (arith, long, found.0), stands-again es n e new c.args.position.now at (found.1 e at) refl)

pub overflow_cast-n : goal.overflow_cast-n
overflow_cast-n c =
    let es : List Entry = c.self.inside.entries.items in
    let counts : AreCounts c.requires.counted.0 es = rw (sym c.self.view_is) at c.requires.counted.2 in
    let n : c.len-n.result ≡ length es = grind (arith, common_steps) in
    let low = counts.few in
    omega (arith, low, n, c.requires.counted.1, c.requires.few)

pub overflow_add-n : goal.overflow_add-n
overflow_add-n c =
    let es : List Entry = c.self.inside.entries.items in
    let counts : AreCounts c.requires.counted.0 es = rw (sym c.self.view_is) at c.requires.counted.2 in
    let n : c.len-n.result ≡ length es = grind (arith, common_steps) in
    let low = counts.few in
    omega (arith, low, n, c.requires.counted.1, c.requires.few)

pub index_mut-requires-2 : goal.index_mut-requires-2
index_mut-requires-2 c =
    let links = c.self.inside.links.items in
    let free : IsFree c.self.inside.entries.items links c.args.position.now c.in-Err.link = rw (c.deref.ensures.value, c.deref-2.ensures.value) at c.in-Err.ensures in
    let low = slice_get_within links c.in-Err.link 0 free.none in
    let same : c.reserve-2.new.self.items ≡ links = grind (arith, common_steps) in
    grind (arith, common_steps)

pub invariant_of-self-2 : goal.invariant_of-self-2
invariant_of-self-2 c =
    let links = c.self.inside.links.items in
    let es : List Entry = c.self.inside.entries.items in
    let p = c.args.position.now in
    let d : Entry = record { position = p; count = 1; first = c.args.before } in
    let more : c.push_reserved-3.new.self.items ≡ es ++ d ∷ [] = grind (arith, common_steps) in
    let n : c.len-n.result ≡ length es = grind (arith, common_steps) in
    let free : IsFree es links p c.in-Err.link = rw (c.deref.ensures.value, c.deref-2.ensures.value) at c.in-Err.ensures in
    let linked : c.push_reserved-2.new.self.items ≡ set links c.in-Err.link (length es + 1) ++ 0 ∷ 0 ∷ [] = grind (arith, common_steps) in
    rw (more, linked) (tree-more es links d c.in-Err.link c.self.invariant free)

pub returns-clause-ok : goal.returns-clause-ok
returns-clause-ok c = λ ps long counts.
    let links = c.self.inside.links.items in
    let es : List Entry = c.self.inside.entries.items in
    let p = c.args.position.now in
    let d : Entry = record { position = p; count = 1; first = c.args.before } in
    let more : c.push_reserved-3.new.self.items ≡ es ++ d ∷ [] = grind (arith, common_steps) in
    let old : AreCounts ps es = rw (sym c.self.view_is) at counts in
    let free : IsFree es links p c.in-Err.link = rw (c.deref.ensures.value, c.deref-2.ensures.value) at c.in-Err.ensures in
    let none : times (keys es) p ≡ 0 = free-stands es links p c.in-Err.link c.self.invariant free in
    rw more (counts-more ps es d old none refl (sym long))

pub returns-clause-place : goal.returns-clause-place
returns-clause-place c =
    let es : List Entry = c.self.inside.entries.items in
    let p = c.args.position.now in
    let d : Entry = record { position = p; count = 1; first = c.args.before } in
    let more : c.push_reserved-3.new.self.items ≡ es ++ d ∷ [] = grind (arith, common_steps) in
    let n : c.len-n.result ≡ length es = grind (arith, common_steps) in
    let long = length-append es (d ∷ []) in
    rw (more, n) (omega (arith, long), stands-following es d)
