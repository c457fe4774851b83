use Rattle.std.proofs.Common.{◌≡◌, List, rules, subst, sym}
use Rattle.map_model.specs.declared.lines.MapLine.{MapLine}
use Rattle.map_model.specs.Progress.{IsGroupBest}
use Rattle.published_map.specs.Version.{IsVersion, Version}
use Rattle.mapper.specs.Currents.{IsCurrent, version_of}
use Rattle.mapper.proofs.Opened.{first_is}
use Rattle.mapper.proofs.mapper.prepare_first.Goals as goal

pub returns-in-Ok-make-clause-first : goal.returns-in-Ok-make-clause-first
returns-in-Ok-make-clause-first g =
    let version : IsVersion g.in-Ok-make.version × (g.in-Ok-make.version.serial ≡ 0) × (g.in-Ok-make.version.market ≡ g.args.topology.market) = search rules in
    let plan : g.in-Ok-make.version.plan ≡ g.args.topology = search rules in
    let lines : g.in-Ok-make.version.lines ≡ g.args.first.current.map.lines.items = search rules in
    first_is g.args.topology g.in-Ok-make.version version plan (subst (λ (ls : List MapLine). IsGroupBest g.args.topology.market ls) (sym lines) g.requires.best)

pub returns-in-Ok-make-clause-current : goal.returns-in-Ok-make-clause-current
returns-in-Ok-make-clause-current c =
    let version : c.in-Ok-make.version ≡ version_of 0 c.args.topology c.args.first.current = search rules in
    subst (λ (v : Version). IsCurrent v c.args.first.current) (sym version) (c.requires.current 0)
