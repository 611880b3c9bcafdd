use Rattle.sexpr_reader.specs.declared.source.TheConstants.{SOURCE_LIMIT}
use Rattle.command_phases.proofs.Loading.{none_failed, read_second}
use Rattle.command_phases.proofs.PairLoads.{read_first}
use Rattle.command_phases.proofs.load_pair.fetch_pair.Goals as goal

pub returns-in-Ok-fetch-clause-fetches : goal.returns-in-Ok-fetch-clause-fetches
returns-in-Ok-fetch-clause-fetches g c =
    let before = g.F.Files.seen c.args.files.now in
    let mid = g.F.Files.seen c.fetch.new.files in
    let after = g.F.Files.seen c.fetch-2.new.files in (
      read_first c.args.file.now SOURCE_LIMIT before mid after c.in-Ok.source
          (none_failed c.args.second.now c.args.limit mid after c.in-Ok-fetch.text c.in-Ok-fetch.ensures.fetches) c.in-Ok.ensures.fetches,
      read_second c.args.second.now c.args.limit before mid after c.in-Ok-fetch.text c.in-Ok.ensures.same
          (none_failed c.args.file.now SOURCE_LIMIT before mid c.in-Ok.source c.in-Ok.ensures.fetches) c.in-Ok-fetch.ensures.fetches,
    )
