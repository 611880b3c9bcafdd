use Rattle.sexpr_reader.specs.declared.source.TheConstants.{SOURCE_LIMIT}
use Rattle.command_phases.proofs.Loading.{loads_file, none_failed}
use Rattle.command_phases.proofs.load.load_program.Goals as goal

pub returns-in-Ok-clause-loads : goal.returns-in-Ok-clause-loads
returns-in-Ok-clause-loads g c =
    loads_file c.args.name.now (g.F.Files.seen c.args.files.now) (g.F.Files.seen c.fetch.new.files) (g.F.Files.seen c.fetch.new.files) c.in-Ok.file c.program_of.result
    c.in-Ok.ensures.fetches (none_failed c.args.name.now SOURCE_LIMIT (g.F.Files.seen c.args.files.now) (g.F.Files.seen c.fetch.new.files) c.in-Ok.file c.in-Ok.ensures.fetches) c.program_of.ensures
