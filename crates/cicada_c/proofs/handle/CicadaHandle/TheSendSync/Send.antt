-- A connection may go to another thread, as what stands behind it may.
use mir.Raw.{raw}
use base.Fraction.{full_share}
use base.Shift.{Keyless}
use denote.Builtin.{RawPtr}
use denote.Exit.{Exit, unchanged, leaves, hidden, under}
use denote.Memory.{lone}
use denote.RawPtr.{Ptr, block_ptr, null_ptr, lies_at}
use denote.Struct.Struct.{exits_of}
use denote.Struct.Owning.{shape, fields, to}
use denote.Param.Send.{IsSend, Quiet, part_keyless, owning_send, struct_send, sendable}
use Rattle.std.proofs.Crossing.{frees}
use Rattle.cicada_c.specs.Heap.{the_heap}
use Rattle.connections.proofs.connection.Connection.TheSendSync as world
use Rattle.connections.specs.contracts.connection.Connection.{the_row as W}
use Rattle.cicada_c.specs.contracts.handle.CicadaHandle.{the_row as H, the_type}

quiet : {D X : Type 0} (to : D → X) (e : Exit X) → Quiet e → Quiet (hidden (under to e))
quiet to unchanged q = λ x w. tt
quiet to (leaves L l S s r₀) q = λ d. q (to d)

lies : (p : Ptr) (x : W.Denot) → Keyless (lies_at W full_share p x)
lies (block_ptr b o) x = part_keyless W world.the_send full_share x b o
lies null_ptr x = tt

ps : IsSend RawPtr
ps = search sendable

pub send : IsSend H
send =
    owning_send the_type (ps, tt) (λ d. (lies d.at d.value, frees.frees the_heap (raw (lone W.mir)) d.at))
    (λ k. quiet (to the_type) (exits_of k (fields the_type)) ((struct_send (shape the_type) (ps, tt)).leaving k))
