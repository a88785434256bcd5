use Rattle.text.proofs.Unwriting.{scripts_written}
use Rattle.text.proofs.Writing.{scripts_read_back, settings_read_back}
use Rattle.text.proofs.texts_read_back.Goals as goal

pub returns : goal.returns
returns c = record { scripts = scripts_read_back; written = scripts_written; settings = settings_read_back }
