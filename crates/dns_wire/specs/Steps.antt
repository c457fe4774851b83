-- Inside this crate alone: the OPT record, found by one record after the other.
use Rattle.std.specs.Prelude.{◌&&◌, if◌then◌else◌, Option, None, Some, is_none}
use Rattle.dns_wire.specs.Wire.{Record}
use Rattle.dns_wire.specs.Message.{Extension, is_opt, is_root, extension_of}

-- the only OPT so far, and one more record
abbrev pub with_record : Option Extension → Record → Option (Option Extension)
with_record found r =
    if is_opt r then (if is_none found && is_root r.owner then Some (Some (extension_of r)) else None) else Some found
