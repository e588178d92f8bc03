-- `with` makes the empty struct, at the places that its clause names. Assumes `Logic`.
use Rattle.std.proofs.Common.{ℕ, List, [], ◌∷◌, ◌++◌, ◌<◌, ◌^◌, refl}
use seplogic.Ra.Ura.{Ura}
use mir.Syntax.{named, w64}
use mir.Val.{Val, vint, vptr}
use base.Logic.{SProp, ent, emp, via, fst∗}
use base.Fml.{Lft, Share}
use prog.Memory.{Memory}
use prog.Routine.{Routine}
use prog.Wp.{Calls, Loops, WpFn, Tables}
use contract.Monad.{Fun}
use contract.Running.{tables, tables_of}
use sound.WpLaws.{WpFn-mono}
use types.Logic.{Logic}
use types.Kit.{‵, raw, ◌$◌, ◌∵◌, !, qed, move, drop, fsplit, fjoin, suffices, done}
use types.Part.{agg}
use types.Run.{enter, returns, no_more}
use types.ByLocal.{alloc_all, pass_all, free_all, look_at, sets}
use denote.RattleType.{owns}
use denote.Builtin.{u64}
use denote.Exit.{yes}
use denote.Ref.{Bor, ShrRef, shr_vals, shr_Tells}
use denote.Signature.{plain}
use denote.Plain.{uint_vals, uint_Tells}
use denote.Steps.{nothing}
use denote.Triple.Entry.{alive, on_entry}
use denote.Triple.Spec.{Meets, triple_of}
use denote.Triple.Table.{entered}
use denote.Triple.Walked.{says, Stays, stay_none_ref, stay_dropped, walk_of, AllGo, Goes-none_ref, Goes-dropped, Walks, ends_at, walked, walk_Meets}
use Rattle.archive_commands.proofs.Walks.{none, none_made}
use Rattle.archive_commands.specs.declared.places.Places.{Places}
use Rattle.archive_commands.specs.contracts.places.Places as T
use Rattle.archive_commands.specs.contracts.places.Places.with as it
use Rattle.archive_commands.specs.contracts.places.Places.with.Key.{name as #it}
use Rattle.archive_commands.proofs.places.Places.with.Statement as stated
use Rattle.archive_commands.proofs.places.Places.with.Code as code

abbrev Arg : Type 0
Arg = Bor Places × (ℕ × Unit {0})

abbrev stayed : Stays (it.ended).signature.params (it.ended).kept
stayed = (stay_none_ref (0 ∷ []) tt (plain (λ _. T.the_row)) yes, (stay_dropped _ yes, tt))

module _ {M : Type 1} {𝓤 : Ura M} (𝓛 : Logic 𝓤) (at_mem : Memory → SProp 𝓤) (run : Routine → Fun 𝓤) (κ : Lft) (q : Share) (h : Bor Places) (k : ℕ) where
  open 𝓛 use {H}

  abbrev x : Arg
  x = (h, (k, tt))

  abbrev at : List Val × (List Val × Unit {0})
  at = (vptr h.ref_ptr.0 h.ref_ptr.1 ∷ [], (vint w64 k ∷ [], tt))

  abbrev noted : Places
  noted = record { places = h.now.places ++ k ∷ [] }

  abbrev z : (walk_of 𝓛 it.ended stayed (it.clauses 𝓛 at_mem run)).Ghost
  z = (((κ, tt), (q, tt), tt, x, at), tt)

  abbrev Post : Val → SProp 𝓤
  Post = (walk_of 𝓛 it.ended stayed (it.clauses 𝓛 at_mem run)).post z

  abbrev toks : SProp 𝓤
  toks = alive 𝓛 it.signature (κ, tt) (q, tt)

  module _ (C : Calls 𝓤 H) (Λ : Loops 𝓤 H) where
    walk : k < 2 ^ 64
        → ent 𝓤 (on_entry 𝓛 it.signature (κ, tt) (q, tt) x at)
        (WpFn 𝓤 H C Λ code.function (vptr h.ref_ptr.0 h.ref_ptr.1 ∷ vint w64 k ∷ []) Post)
    walk fits =
        qed 𝓛 (raw toks ∷ ‵ (owns (ShrRef (named 0) κ T.the_row ∷ u64 ∷ []) x at) ∷ []) ∵
        enter ! C Λ code.function (vptr h.ref_ptr.0 h.ref_ptr.1 ∷ vint w64 k ∷ []) _ $
        alloc_all ! (λ l. pass_all ! refl ((tt, tt), ((tt, record { fits = fits }), tt)) $
        sets ! (agg ! (no_more !)) refl (tt, tt) $
        nothing ! $ none_made ! $ fjoin ! $
        returns ! (look_at ! 0 refl) $ free_all ! refl $
        suffices ! _ (ends_at 𝓛 it.ended stayed (it.clauses 𝓛 at_mem run) z none noted (tt, (tt, tt)) (tt, (tt, tt))) $ says ! refl $
        move ! (2 ∷ 1 ∷ 0 ∷ []) $ fsplit ! $ move ! (1 ∷ 0 ∷ 2 ∷ 3 ∷ []) $ drop ! $
        nothing ! $ nothing ! $ fjoin ! $ move ! (1 ∷ 0 ∷ 2 ∷ 3 ∷ []) $ fjoin ! $
        move ! (1 ∷ 0 ∷ 2 ∷ []) $ done !)

module _ {M : Type 1} {𝓤 : Ura M} (𝓛 : Logic 𝓤) (at_mem : Memory → SProp 𝓤) (run : Routine → Fun 𝓤) where
  open 𝓛 use {H}

  walks : (C : Calls 𝓤 H) (Λ : Loops 𝓤 H) → Walks 𝓛 it.ended stayed (WpFn 𝓤 H C Λ code.function) (it.clauses 𝓛 at_mem run)
  walks C Λ =
      walked 𝓛 it.ended stayed (it.clauses 𝓛 at_mem run) (WpFn 𝓤 H C Λ code.function) (λ κs. (shr_vals, (uint_vals w64, tt)))
      (λ κs. (shr_Tells (named 0) κs.0 T.the_row, (uint_Tells w64, tt)))
      (λ κs qs bounds a _ are. via 𝓤 _ (fst∗ 𝓤 _ (emp 𝓤)) (walk 𝓛 at_mem run κs.0 qs.0 a.0 a.1.0 C Λ are.1.0.1))

  goes : AllGo 𝓛 1 (it.signature).params (it.ended).kept stayed
  goes = (Goes-none_ref 𝓛 1 (0 ∷ []) tt (plain (λ _. T.the_row)) yes, (Goes-dropped 𝓛 1 (plain (λ _. u64)) yes (λ κs x w. refl), tt))

meets : {M : Type 1} {𝓤 : Ura M} (𝓛 : Logic 𝓤) → (at_mem : Memory → SProp 𝓤) (run : Routine → Fun 𝓤) (𝓣 : Tables 𝓤 𝓛.H)
    → Meets 𝓛 it.signature (WpFn 𝓤 𝓛.H 𝓣.C 𝓣.Λ code.function) (it.spec 𝓛 at_mem run)
meets {𝓤 = 𝓤} 𝓛 at_mem run 𝓣 =
    walk_Meets 𝓛 it.ended stayed (goes 𝓛 at_mem run) (it.clauses 𝓛 at_mem run) (WpFn 𝓤 𝓛.H 𝓣.C 𝓣.Λ code.function)
    (WpFn-mono 𝓤 𝓛.H 𝓛.laws 𝓣 code.function) (walks 𝓛 at_mem run 𝓣.C 𝓣.Λ)

pub with_spec : {M : Type 1} → stated.statement M
unfolding tables_of
with_spec 𝓤 𝓛 𝓜 𝓡 wired =
    entered 𝓤 𝓛.H (triple_of 𝓛 it.signature (it.spec 𝓛 𝓜.mem 𝓡.returns))
    (tables 𝓤 𝓛.H 𝓜 𝓡 𝓡.env).C (tables 𝓤 𝓛.H 𝓜 𝓡 𝓡.env).Λ #it code.function (code.unfolded 𝓤 𝓛.H 𝓜 𝓡 wired)
    (meets 𝓛 𝓜.mem 𝓡.returns (tables_of 𝓤 𝓛.H 𝓜 (tables 𝓤 𝓛.H 𝓜 𝓡 𝓡.env)))
