-- Which command a job is of.
use Rattle.astc_words.specs.declared.command.Command.{Command}
use Rattle.astc_words.specs.declared.command.Command.TheVariants.{Pack as PackWord, Unpack as UnpackWord, Audit as AuditWord, Trial as TrialWord, Import as ImportWord, Export as ExportWord, PackKtx as PackKtxWord}
use Rattle.astc_words.specs.declared.job.Job.{Job}
use Rattle.astc_words.specs.declared.job.Job.TheVariants.{Pack, Unpack, Audit, Trial, Import, Export, PackKtx}

-- the command whose words ask for the job
abbrev pub command_by : Job → Command
command_by (Pack job) = PackWord
command_by Unpack = UnpackWord
command_by (Audit job) = AuditWord
command_by (Trial job) = TrialWord
command_by (Import flavour) = ImportWord
command_by (Export job) = ExportWord
command_by (PackKtx job) = PackKtxWord
