-- What a handle of C becomes, once what it lends comes back.
use Rattle.connections.specs.Connection.{ConnectionView}
use Rattle.cicada_c.specs.declared.handle.CicadaHandle.{CicadaHandle}

-- the handle with this connection behind its pointer
abbrev pub with_value : CicadaHandle → ConnectionView → CicadaHandle
with_value h c = record { at = h.at; value = c }
