-- The converters of our inner functions, as their contracts name them.
use Rattle.codepage_lookup.specs.Tables.{byte_reader, unit_reader}
use Rattle.engine.specs.Engine.{Converter, converter}
use Rattle.engine.specs.declared.converters.ByteConverter.{ByteConverter}
use Rattle.engine.specs.declared.converters.LeadConverter.{LeadConverter}
use Rattle.engine.specs.declared.converters.UnitConverter.{UnitConverter}

-- bytes to units
abbrev pub by_bytes : ByteConverter → Converter
by_bytes v = converter (byte_reader v.tables) v.policy v.default

-- the same, with the lead bytes found
abbrev pub by_leads : LeadConverter → Converter
by_leads v = converter (byte_reader v.tables.tables) v.policy v.default

-- units to bytes
abbrev pub by_units : UnitConverter → Converter
by_units v = converter (unit_reader v.tables) v.policy v.default
