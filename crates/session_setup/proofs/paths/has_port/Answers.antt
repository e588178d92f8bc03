use Rattle.std.proofs.Common.{◌++◌, ◌∷◌, ◌∙◌, ap, sym, arith}
use Rattle.session_setup.proofs.Addresses.{cut_once, no_colon, port_found}
use Rattle.session_setup.proofs.Planning.{unless}
use Rattle.session_setup.proofs.Replacing.{split_at_char}
use Rattle.session_setup.proofs.paths.has_port.Goals as goal

pub returns-then-is_host : goal.returns-then-is_host
returns-then-is_host c =
    let host = c.in-Some.host.now in
    let split = split_at_char 58 _ _ _ (omega arith) c.in-Some.ensures.cases in
    let is_host = rw c.as_bytes.ensures.value at (c.is_host.ensures.0 c.if-is_host.true) in
    let port = port_found c.in-Some.port.now c.port_in.result c.is_some.result c.is_some.ensures (rw c.as_bytes-then-is_host.ensures.value at c.port_in.ensures) in (
      λ t. let found = port.0 t in (host, found.0, is_host, found.1, split ∙ ap (λ l. host ++ 58 ∷ l) found.2),
      λ has. port.1 (has.1, has.3, sym (cut_once c.args.address.now host c.in-Some.port.now has.0 has.1 c.in-Some.ensures.cases has.3 has.4).1),
    )

pub returns-else-is_host : goal.returns-else-is_host
returns-else-is_host c =
    let not_host = unless _ c.is_host.ensures c.if-is_host.false in (
      λ t. absurd cc,
      λ has.
          let cut = cut_once c.args.address.now c.in-Some.host.now c.in-Some.port.now has.0 has.1 c.in-Some.ensures.cases has.3 has.4 in
          absurd (not_host (rw (c.as_bytes.ensures.value, sym cut.0) has.2)),
    )

pub returns-in-None : goal.returns-in-None
returns-in-None c = (λ t. absurd cc, λ has. absurd (no_colon c.args.address.now has.0 has.1 c.in-None.ensures.cases has.4))
