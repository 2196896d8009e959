-- The protection system that an implementation means.
use Rattle.protection.specs.Systems.{System, system_of}
use Rattle.walk.specs.declared.interface.Walk as walk
use Rattle.protection.specs.declared.interface.System as system

abbrev pub meaning : {S : Type 0} → walk.Ghosts S → system.Ghosts S → S → System
meaning w y s = system_of (w.model s) (y.labels s)
