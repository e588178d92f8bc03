use Rattle.session_commands.specs.Endings.{says_fault}
use Rattle.session_commands.proofs.EndEvents.{of_engine, of_server}
use Rattle.session_commands.proofs.ending.end_in.Goals as goal

pub returns-in-Engine : goal.returns-in-Engine
returns-in-Engine c = rw c.in-Engine.is (of_engine c.args.before c.args.after c.args.line.now c.args.status c.engine_event.result c.engine_event.ensures)

pub returns-in-Failed : goal.returns-in-Failed
returns-in-Failed c = rw (c.in-Server.is, c.in-Failed.is) (says_fault c.in-Failed.fault)

pub returns-in-Going : goal.returns-in-Going
returns-in-Going c = rw (c.in-Server.is, c.in-Going.is) (of_server c.args.before c.args.after c.args.line.now _ c.game_event.result (λ fault is. absurd cc) c.game_event.ensures)

pub returns-in-Done : goal.returns-in-Done
returns-in-Done c = rw (c.in-Server.is, c.in-Done.is) (of_server c.args.before c.args.after c.args.line.now _ c.game_event-in-Done.result (λ fault is. absurd cc) c.game_event-in-Done.ensures)

pub returns-in-Lost : goal.returns-in-Lost
returns-in-Lost c = rw (c.in-Server.is, c.in-Lost.is) (of_server c.args.before c.args.after c.args.line.now _ c.game_event-in-Lost.result (λ fault is. absurd cc) c.game_event-in-Lost.ensures)
