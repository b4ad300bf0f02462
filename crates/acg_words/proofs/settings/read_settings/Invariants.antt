use Rattle.std.proofs.Common.{◌≡◌, map, drop, string_bytes}
use Rattle.acg_words.specs.Settings.{told_by}
use Rattle.acg_words.proofs.SettingsLemmas.{rest_told}
use Rattle.acg_words.proofs.settings.read_settings.Given as goal

abbrev pub invariant-loop-setting : goal.invariant-loop-setting
invariant-loop-setting l =
    rest_told l.settings (drop l.setting-index l.settings) l.told.settings (map string_bytes l.told.behind.now)
    ≡ told_by l.settings (map string_bytes l.words)
