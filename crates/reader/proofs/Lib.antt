-- Fields: operands as std reads their bytes. Opcodes: the bytes that are known. Registers: tests of a command's registers. Places:
-- what stands at a place of a file. Progress: a file read command by command. Lossless: operands are known from their command.
pub mod Fields
pub mod Opcodes
pub mod Registers
pub mod Places
pub mod Progress
pub mod Lossless
