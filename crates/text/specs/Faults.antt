-- The number and the layer of each fault of a text. Assumes nothing.
use Rattle.std.specs.Prelude.{ℕ}
use Rattle.faults.specs.declared.Layer.{Layer}
use Rattle.faults.specs.declared.Layer.TheVariants.{Script, Settings}
use Rattle.faults.specs.declared.Refusal.{Refusal}
use Rattle.faults.specs.Refusals.{plain, in_text}
use Rattle.text.specs.declared.fault.LineFault.{LineFault}
use Rattle.text.specs.declared.fault.LineFault.TheVariants.{NoDigit, WrongCount, NoEnd}
use Rattle.text.specs.declared.fault.ScriptFault.{ScriptFault}
use Rattle.text.specs.declared.fault.ScriptFault.TheVariants as script
use Rattle.text.specs.declared.fault.SettingsFault.{SettingsFault}
use Rattle.text.specs.declared.fault.SettingsFault.TheVariants as settings
use Rattle.text.specs.declared.fault.Unread.{Unread}
use Rattle.text.specs.declared.fault.Unread.TheVariants.{Faulty, NoMemory}

-- 21: no digit where a field begins; 22: a wrong number of fields, told with that number; 23: neither comma nor line end after a field
abbrev pub line_refusal : Layer → ℕ → LineFault → Refusal
line_refusal layer line (NoDigit k) = in_text layer 21 line k
line_refusal layer line (WrongCount k) = in_text layer 22 line k
line_refusal layer line (NoEnd k) = in_text layer 23 line k

-- 24: too long; want of memory has no number of its own and is told as 0
abbrev pub script_refusal : ScriptFault → Refusal
script_refusal (script.Line n e) = line_refusal Script n e
script_refusal script.TooLong = plain Script 24
script_refusal script.NoMemory = plain Script 0

-- settings are one line
abbrev pub settings_refusal : SettingsFault → Refusal
settings_refusal (settings.Line e) = line_refusal Settings 1 e
settings_refusal settings.NoMemory = plain Settings 0

-- why a line was not read, told of the script that has it as line n
abbrev pub at_line : ℕ → Unread LineFault → Unread ScriptFault
at_line n (Faulty e) = Faulty (script.Line n e)
at_line n (NoMemory e) = NoMemory e

-- the fault of a script that was not read, and of settings whose line was not
abbrev pub in_script : Unread ScriptFault → ScriptFault
in_script (Faulty e) = e
in_script (NoMemory _) = script.NoMemory

abbrev pub in_settings : Unread LineFault → SettingsFault
in_settings (Faulty e) = settings.Line e
in_settings (NoMemory _) = settings.NoMemory
