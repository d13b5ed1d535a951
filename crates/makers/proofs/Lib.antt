-- The theorems, each over the laws before it.
-- A listed page gives its bytes back.
mod Every
mod Digits
mod Operands
mod Pieces
mod Rows
mod Lines
pub mod PageBack
-- The table of mnemonics beside the model.
mod ByMnemonicFirst
mod ByMnemonicKnown
mod ByMnemonicFields
mod ByMnemonicReads
mod ByMnemonicZeroed
mod ByMnemonicBegins
pub mod ByMnemonic
-- What the two calls refuse.
mod FirstBad
mod Texts
mod Keeping
mod Assembling
mod Listing
mod Mnemonics
pub mod Refusals
