use Rattle.std.proofs.Common.{rules}
use Rattle.connections.proofs.Seats.{closes_at}
use Rattle.connections.proofs.connection.Connection.close.Goals as goal

pub returns : goal.returns
returns c = closes_at _ c.self.inside.opened c.self.inside.numbers c.give_all.new.numbers _ c.self.inside.pass c.take.new.self c.retire.result c.in-Some.pass c.end_at.new.pass c.tell_at.new.pass c.give_all.new.pass _ c.self.view_is
    (search rules) c.end_at.ensures.ends (rw c.deref.ensures at c.end_at.ensures.idle) c.end_at.ensures.still_last c.tell_at.ensures.tells c.give_all.ensures.gives (search rules) c.retire.ensures
