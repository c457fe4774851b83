use Rattle.std.proofs.Common.{ap, ◌∙◌, Some}
use Rattle.addr_text.specs.Groups.{side_groups}
use Rattle.addr_text.proofs.Joined.{no_left, no_right, two_filled}
use Rattle.addr_text.proofs.groups.two_sides.Goals as goal
use Rattle.addr_text.proofs.groups.two_sides.Goals.{in_default-via-in-Some+in_default, in_default-via-in_default}

pub returns-in-Some-Some : goal.returns-in-Some-Some
returns-in-Some-Some c =
    c.filled.ensures
    ∙ two_filled (side_groups c.args.before.now) (side_groups c.args.after.now) c.as_slice.result.now c.as_slice-in-Some-Some.result.now (ap Some c.as_slice.ensures.value ∙ c.in-Some-Some.ensures) (ap Some c.as_slice-in-Some-Some.ensures.value ∙ c.in-Some-Some.ensures')

pub returns-in_default : goal.returns-in_default
returns-in_default c =
    elim c.in_default.branch [
      | in_default-via-in-Some+in_default w ↦ no_right (side_groups c.args.before.now) (side_groups c.args.after.now) w.in_default.ensures'
      | in_default-via-in_default w ↦ no_left (side_groups c.args.before.now) (side_groups c.args.after.now) w.in_default.ensures-1
    ]
